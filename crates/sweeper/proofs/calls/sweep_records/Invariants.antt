-- One part after another.
-- the next part lies in the file, and its numbers have room
use Rattle.tables.specs.Operands.{lend_names}
use Rattle.rules.specs.Calls.{run_gives}
use Rattle.sweeps.proofs.Going.{Between}
use Rattle.sweeper.proofs.calls.sweep_records.Given as goal

abbrev pub invariant-loop-left : goal.invariant-loop-left
invariant-loop-left l =
    Between (λ content. run_gives (lend_names l.items l.literals l.bytes l.names) l.plan content l.switches) l.records l.size l.initial.answers l.answers l.left l.from l.out

abbrev pub decreases-loop-left : goal.decreases-loop-left
decreases-loop-left l = l.left
