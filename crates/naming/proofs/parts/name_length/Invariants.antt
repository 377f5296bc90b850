-- `name_length` meets its contract. The loop's invariant: the first k bytes are the name's.
use mathlib.Core.Path.{◌≡◌}
use Prim.Native.Nat.{◌+◌}
use lib.ListN.{length, drop}
use Rattle.spelling.specs.Names.{leading}
use Rattle.naming.proofs.parts.name_length.Given as goal

abbrev pub invariant-loop-k : goal.invariant-loop-k
invariant-loop-k l = length (leading l.rest) ≡ l.k + length (leading (drop l.k l.rest))
