-- One record after the other.
use Rattle.tables.specs.Operands.{lend_names}
use Rattle.values.specs.Truth.{outcome}
use Rattle.block_truths.specs.Columns.{outcome_at, Right, Standing}
use Rattle.block_truths.proofs.Passing.{Passing}
use Rattle.block_rows.proofs.judge_each.Given as goal

abbrev pub invariant-loop-j : goal.invariant-loop-j
invariant-loop-j l =
    Passing (Standing l.at l.row (λ k v. Right (outcome_at (lend_names l.items l.literals l.bytes l.names) l.records l.initial.base l.size l.switches l.condition k) v) l.initial.truths)
    l.initial.base l.size l.n l.initial.truths l.truths l.base l.j
