-- One record after the other.
use mathlib.Core.Path.{◌≡◌}
use Rattle.byte_words.specs.Words.{digits_in}
use Rattle.block_truths.specs.Columns.{word_at, compared}
use Rattle.block_truths.proofs.Passing.{Passing}
use Rattle.field_words.proofs.words.compare_field.Given as goal

abbrev pub invariant-loop-j : goal.invariant-loop-j
invariant-loop-j l =
    Passing (λ k v. v ≡ compared (digits_in 8 (word_at l.records l.initial.base l.size l.field.end l.field.width k)) l.order.less l.order.same l.order.more
    (word_at l.records l.initial.base l.size l.field.end l.field.width k) l.word) l.initial.base l.size l.n l.initial.truths l.truths l.base l.j
