-- `doubled_size` meets its contract. The loop's invariant: `size` bytes for the first bytes.
use mathlib.Core.Path.{◌≡◌}
use Prim.Native.Nat.{◌+◌, ◌*◌, ◌≤◌}
use lib.ListN.{length, drop}
use Rattle.spelling.specs.Literals.{doubled}
use Rattle.quoting.proofs.parts.doubled_size.Given as goal

abbrev pub invariant-loop-b : goal.invariant-loop-b
invariant-loop-b l = (l.size ≤ 2 * l.b-index) × (length (doubled l.part) ≡ l.size + length (doubled (drop l.b-index l.part)))
