-- One record after the other.
use mathlib.Core.Path.{◌≡◌}
use mathlib.Core.Bool.{true}
use Rattle.block_truths.specs.Columns.{compared}
use Rattle.block_truths.proofs.Passing.{Passing}
use Rattle.record_texts.specs.Texts.{text_at}
use Rattle.record_texts.proofs.compare_text.Given as goal

abbrev pub invariant-loop-j : goal.invariant-loop-j
invariant-loop-j l =
    Passing (λ k v. v ≡ compared true l.order.less l.order.same l.order.more (text_at l.records l.initial.base l.size l.text.end l.text.width l.filled k) l.word)
    l.initial.base l.size l.n l.initial.truths l.truths l.base l.j
