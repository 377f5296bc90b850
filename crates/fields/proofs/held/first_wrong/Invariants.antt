-- The loop's invariant: the first wrong byte is the first from `at` on, so that there is a byte `at`.
use Prim.Native.Nat.{◌-◌, ◌<◌}
use mathlib.Core.Path.{◌≡◌}
use lib.ListN.{length, drop}
use Rattle.content.specs.WrongByte.{right_at, first_from, first_wrong}
use Rattle.fields.proofs.held.first_wrong.Given as goal

abbrev pub invariant-loop-row : goal.invariant-loop-row
invariant-loop-row l =
    (l.at < length l.bytes) × (first_wrong l.row.kind l.row.digits l.bytes ≡ first_from (right_at l.row.kind l.row.digits (length l.bytes)) l.at (drop l.at l.bytes))

abbrev pub decreases-loop-row : goal.decreases-loop-row
decreases-loop-row l = length l.bytes - l.at
