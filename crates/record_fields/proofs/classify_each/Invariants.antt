-- One record after the other.
use mathlib.Core.Bool.{true}
use Rattle.tables.specs.Rows.{part}
use Rattle.values.specs.Comparison.{side}
use Rattle.values.specs.Truth.{truth, class_outcome}
use Rattle.block_truths.specs.Columns.{record_at, Right, Standing}
use Rattle.block_truths.proofs.Passing.{Passing}
use Rattle.record_fields.proofs.classify_each.Given as goal

abbrev pub invariant-loop-j : goal.invariant-loop-j
invariant-loop-j l =
    Passing (Standing l.at l.place (λ k v. Right (class_outcome l.word l.negated (side true l.row (part l.row (record_at l.records l.initial.base l.size k)))) v) l.initial.truths) l.initial.base l.size l.n l.initial.truths
    l.truths l.base l.j
