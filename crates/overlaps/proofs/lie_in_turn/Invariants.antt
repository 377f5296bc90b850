-- The invariant: while all lie in turn, none of the rows passed overlaps an earlier one.
use mathlib.Core.Path.{◌≡◌}
use mathlib.Core.Bool.{true}
use Prim.Native.Nat.{◌≤◌}
use Rattle.items.proofs.Turns.{InTurn}
use Rattle.overlaps.proofs.lie_in_turn.Given as goal

abbrev pub invariant-loop-v : goal.invariant-loop-v
invariant-loop-v l = (l.v ≤ l.rows) × (l.in_turn ≡ true → InTurn l.items l.v l.end)
