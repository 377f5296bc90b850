-- Rests on the laws of the loop that follows a plan's targets, and on what `plan_row` and `truth_of` ensure of the row it has come to.
use Prim.Native.Nat.{◌-◌}
use Rattle.tables.specs.Operands.{lend_names}
use Rattle.values.specs.Truth.{outcome}
use Rattle.runner.proofs.Running.{Going}
use Rattle.runner.proofs.run_rows.Given as goal

abbrev pub invariant-loop-target : goal.invariant-loop-target
invariant-loop-target l =
    Going (outcome (lend_names l.items l.literals l.bytes l.names) l.«record» l.switches) l.plan l.target.number l.count

abbrev pub decreases-loop-target : goal.decreases-loop-target
decreases-loop-target l = 65536 - l.target.number
