-- What a relation of two texts or groups comes to, told by their words.
use mathlib.Core.Path.{◌≡◌, refl, sym, ap, ◌∙◌}
use mathlib.Core.Bool.{Bool, true, ◌||◌}
use mathlib.Core.List.{List}
use Prim.Native.Nat.{ℕ, max}
use lib.Dec.{eqb, leb}
use lib.ListN.{length}
use Rattle.content.specs.declared.Row.{Row}
use Rattle.tables.specs.Rows.{is_group}
use Rattle.tables.specs.Operands.{Lent, row_of, operand_bytes}
use Rattle.tables.proofs.Tests.{both}
use Rattle.typing.specs.declared.Test.TheVariants.{Relation}
use Rattle.typing.specs.Tests.{test_of}
use Rattle.values.specs.Comparison.{side_of}
use Rattle.values.specs.Truth.{truth, outcome}
use Rattle.values.proofs.Faults.{relation_goes}
use Rattle.values.proofs.Texts.{Plain, text-plain, texts_compare, text_faultless}
use Rattle.digit_words.specs.Asked.{asked_of, answered}
use Rattle.byte_words.proofs.WordLaws.{Bytes}
use Rattle.digit_words.proofs.AskedLaws.{asked_answers}
use Rattle.text_words.specs.Texts.{fits_text, text_word}
use Rattle.text_words.proofs.TextLaws.{text-order}

-- what a row says that is read as a text's word
text_row_lem : (row : Row) → fits_text row ≡ true → Plain row
text_row_lem row e = text-plain row (both (is_group row || eqb row.kind _) (leb row.size _) e).0

module _ (lent : Lent) (content : List ℕ) (switches subject relation object : ℕ) where
  pub texts_by_words : {word : ℕ} {negated : Bool} → test_of relation ≡ Relation word negated
      → fits_text (row_of lent subject) ≡ true → fits_text (row_of lent object) ≡ true
      → Bytes (operand_bytes lent content subject) → Bytes (operand_bytes lent content object)
      → {n : ℕ} → n ≡ max (length (operand_bytes lent content subject)) (length (operand_bytes lent content object))
      → outcome lent content switches subject relation object
      ≡ truth (answered (asked_of word negated) (text_word n (operand_bytes lent content subject)) (text_word n (operand_bytes lent content object)))
  unfolding outcome
  texts_by_words {word} {negated} e f g b1 b2 {n} m =
      let s = side_of lent content subject in
      let o = side_of lent content object in
      let p = text_row_lem (row_of lent subject) f in
      let q = text_row_lem (row_of lent object) g in
      rw e
      (sym
      (relation_goes word negated {s = s} {s' = s} {o = o} {o' = o} refl refl (text_faultless s o.row p) (text_faultless o s.row q)
      (text-order b1 b2 m ∙ sym (texts_compare s o p.text q.text)))
      ∙ ap truth (asked_answers word negated (text_word n s.bytes) (text_word n o.bytes)))
