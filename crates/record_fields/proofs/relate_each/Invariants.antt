-- One record after the other.
use mathlib.Core.Bool.{cond}
use Rattle.tables.specs.Rows.{part}
use Rattle.values.specs.Comparison.{side}
use Rattle.values.specs.Truth.{relation_outcome}
use Rattle.block_truths.specs.Columns.{record_at, Right, Standing}
use Rattle.block_truths.proofs.Passing.{Passing}
use Rattle.record_fields.proofs.relate_each.Given as goal

abbrev pub invariant-loop-j : goal.invariant-loop-j
invariant-loop-j l =
    Passing (Standing l.at l.place (λ k v. Right (relation_outcome l.word l.negated (side l.item1 l.row1 (cond l.item1 (part l.row1 (record_at l.records l.initial.base l.size k)) l.left))
    (side l.item2 l.row2 (cond l.item2 (part l.row2 (record_at l.records l.initial.base l.size k)) l.right))) v) l.initial.truths) l.initial.base l.size l.n l.initial.truths l.truths l.base l.j
