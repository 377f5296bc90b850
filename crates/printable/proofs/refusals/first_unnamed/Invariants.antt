-- `first_unnamed` meets its contract. The loop's invariant: the first i tokens pass.
use mathlib.Core.Path.{◌≡◌}
use Prim.Native.Nat.{◌+◌}
use lib.ListN.{drop}
use Rattle.naming.specs.Named.{known_at}
use Rattle.spelling.specs.Printing.{has_name}
use Rattle.printable.specs.Passing.{passing}
use Rattle.printable.proofs.refusals.first_unnamed.Given as goal

abbrev pub invariant-loop-i : goal.invariant-loop-i
invariant-loop-i l = passing (has_name (known_at l.description l.items l.places)) l.tokens ≡ l.i + passing (has_name
    (known_at l.description l.items l.places)) (drop l.i l.tokens)
