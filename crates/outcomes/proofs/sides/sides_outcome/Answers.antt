-- Rests on the laws of words and of texts, and on what the callees say of the other pairs.
use mathlib.Core.Path.{sym, ◌∙◌}
use native.Mathlib.Omega.{arith}
use borrow.Author.Tests.{eqb-true}
use Rattle.tables.proofs.Tests.{both}
use Rattle.byte_words.proofs.WordLaws.{bytes_of}
use Rattle.digit_words.proofs.Outcomes.{words_outcome}
use Rattle.values.specs.Comparison.{side}
use Rattle.values.proofs.Reading.{numeral, some_bytes}
use Rattle.values.proofs.Texts.{text-plain, texts_outcome}
use Rattle.outcomes.proofs.sides.sides_outcome.Goals as goal

pub returns-then-all_digits : goal.returns-then-all_digits
returns-then-all_digits c =
    let s = side c.args.item1 c.args.row1 c.args.left.now in
    let o = side c.args.item2 c.args.row2 c.args.right.now in
    let t = both _ _ c.if-fits_word-row1.true in
    let f = both _ _ t.0 in
    let d = both _ _ c.if-all_digits.true in
    let a = c.short_word-a.ensures in
    let b = c.short_word-b.ensures in
    rw (c.relation_holds.ensures, c.order_of.ensures, a, b) at c.truth_value.ensures
    ∙ words_outcome c.args.word c.args.negated s o (sym c.fits_word.ensures ∙ f.0) (sym c.fits_word-2.ensures ∙ f.1)
    (eqb-true _ _ t.1) (bytes_of _ (λ i. (c.shared_slice_known-1.given i).fits)) (bytes_of _ (λ i. (c.shared_slice_known-2-1.given i).fits))
    (omega (arith, c.requires.0.sized)) (omega (arith, c.requires.1.sized))
    (sym (rw a at c.all_digits.ensures) ∙ d.0) (sym (rw b at c.all_digits-then-fits_word-row1.ensures) ∙ d.1)

pub value_outcome-requires : goal.value_outcome-requires
value_outcome-requires c =
    let n = both _ _ c.if-is_numeric.true in
    (numeral c.requires.0 (sym c.is_numeric.ensures ∙ n.0), numeral c.requires.1 (sym c.is_numeric-2.ensures ∙ n.1))

pub compare_characters-order-requires : goal.compare_characters-order-requires
compare_characters-order-requires c =
    (some_bytes c.requires.0, some_bytes c.requires.1)

pub returns-then-is_text : goal.returns-then-is_text
returns-then-is_text c =
    let s = side c.args.item1 c.args.row1 c.args.left.now in
    let o = side c.args.item2 c.args.row2 c.args.right.now in
    let t = both _ _ c.if-is_text.true in
    rw (c.relation_holds-then-is_text.ensures, c.compare_characters-order.ensures) at c.truth_value-then-is_text.ensures
    ∙ texts_outcome c.args.word c.args.negated s o
    (text-plain c.args.row1 (sym c.is_text.ensures ∙ t.0)) (text-plain c.args.row2 (sym c.is_text-2.ensures ∙ t.1))
