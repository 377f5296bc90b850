-- `first_missing` meets its contract. The loop's invariant: the first i tokens pass.
use mathlib.Core.Path.{◌≡◌}
use Prim.Native.Nat.{◌+◌}
use lib.ListN.{drop}
use Rattle.printable.specs.Passing.{passing, may_print}
use Rattle.printable.proofs.refusals.first_missing.Given as goal

abbrev pub invariant-loop-i : goal.invariant-loop-i
invariant-loop-i l = passing (may_print l.items l.literals l.names) l.tokens ≡ l.i + passing (may_print l.items l.literals l.names) (drop l.i l.tokens)
