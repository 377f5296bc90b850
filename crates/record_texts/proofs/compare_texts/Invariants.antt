-- One record after the other.
use mathlib.Core.Bool.{true}
use mathlib.Core.Path.{◌≡◌}
use Rattle.block_truths.specs.Columns.{compared}
use Rattle.block_truths.proofs.Passing.{Passing}
use Rattle.record_texts.specs.Texts.{text_of}
use Rattle.record_texts.proofs.compare_texts.Given as goal

abbrev pub invariant-loop-j : goal.invariant-loop-j
invariant-loop-j l =
    Passing (λ k v. v ≡ compared true l.order.less l.order.same l.order.more (text_of l.records l.initial.base l.size l.fn.row1 l.filled k)
    (text_of l.records l.initial.base l.size l.fn.row2 l.filled k)) l.initial.base l.size l.n l.initial.truths l.truths l.base l.j
