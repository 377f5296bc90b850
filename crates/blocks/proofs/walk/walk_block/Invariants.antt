-- From row to row.
-- what is lent, and what each row needs of it
-- the row is judged, and each record that stands there goes on
use mathlib.Core.Path.{◌≡◌}
use Prim.Native.Nat.{◌-◌}
use lib.ListN.{length}
use Rattle.tables.specs.Operands.{lend_names}
use Rattle.grammar.specs.Plan.{plan_row, plan_rows}
use Rattle.blocks.proofs.Walking.{Walking}
use Rattle.blocks.proofs.walk.walk_block.Given as goal

abbrev pub invariant-loop-row : goal.invariant-loop-row
invariant-loop-row l =
    (l.rows ≡ plan_rows l.plan) × ((length l.at ≡ 64) × (length l.counts ≡ 64) × (length l.truths ≡ 64))
    × Walking (lend_names l.items l.literals l.bytes l.names) l.plan l.records l.block.from l.block.size l.block.n l.switches l.at l.counts l.row

abbrev pub decreases-loop-row : goal.decreases-loop-row
decreases-loop-row l = 130 - l.row
