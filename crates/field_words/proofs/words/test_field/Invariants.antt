-- One record after the other.
use mathlib.Core.Path.{◌≡◌}
use mathlib.Core.Bool.{cond}
use Rattle.byte_words.specs.Words.{digits_in}
use Rattle.block_truths.specs.Columns.{word_at}
use Rattle.block_truths.proofs.Passing.{Passing}
use Rattle.field_words.proofs.words.test_field.Given as goal

abbrev pub invariant-loop-j : goal.invariant-loop-j
invariant-loop-j l =
    Passing (λ k v. v ≡ cond (digits_in 8 (word_at l.records l.initial.base l.size l.field.end l.field.width k)) l.bits.holds l.bits.fails) l.initial.base l.size l.n l.initial.truths l.truths l.base l.j
