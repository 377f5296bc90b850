-- What a simple condition comes to, told by the words of its sides: relations of two rows that are read as words, at one scale, and NUMERIC of one.
use mathlib.Core.Path.{◌≡◌, refl, sym, ap, ◌∙◌}
use mathlib.Core.Bool.{Bool, true, false, not, cond}
use mathlib.Core.List.{List}
use Prim.Native.Nat.{ℕ, ◌+◌, ◌-◌, ◌≤◌}
use native.Mathlib.Omega.{arith}
use lib.Dec.{eqb, leb}
use lib.ListN.{length, take, drop, length-take}
use lib.Seq.{take-take, drop-drop}
use borrow.Author.Tests.{leb-true, eqb-true}
use Rattle.content.specs.Content.{all, is_digit, number_from}
use Rattle.tables.proofs.Tests.{both}
use Rattle.compare.specs.Order.{order, relation_holds}
use Rattle.compare.specs.Classes.{class_holds}
use Rattle.content.specs.WrongByte.{nowhere}
use Rattle.content.proofs.WrongByte.{valid_digits}
use Rattle.content.specs.declared.Row.{Row}
use Rattle.tables.specs.Rows.{row_at, part}
use Rattle.tables.specs.Tokens.{is_item, index_of}
use Rattle.tables.specs.Operands.{Lent, row_of, operand_bytes}
use Rattle.typing.specs.declared.Test.TheVariants.{Relation, Class}
use Rattle.typing.specs.Tests.{test_of}
use Rattle.numbers.proofs.NumberLaws.{same_scale}
use Rattle.values.specs.Comparison.{Side, side_of, numeric, comparison, fault}
use Rattle.values.specs.Truth.{truth, turned, outcome, relation_outcome}
use Rattle.values.proofs.Reading.{by_value}
use Rattle.values.proofs.Faults.{valid_faultless, relation_goes}
use Rattle.byte_words.specs.Words.{digit_word, digits_in}
use Rattle.digit_words.specs.Words.{fits_word}
use Rattle.digit_words.specs.Asked.{asked_of, answered}
use Rattle.byte_words.proofs.WordLaws.{Bytes, bytes_take, bytes_drop, drop-take}
use Rattle.digit_words.proofs.FieldLaws.{word-order}
use Rattle.eight_digits.proofs.DigitLaws.{word_test}
use Rattle.digit_words.proofs.AskedLaws.{asked_answers}

-- two sides whose rows are read as words, at one scale, compare by what their digits write
module _ (s o : Side) (k : s.row.kind ≡ 3) (l : o.row.kind ≡ 3) where
  side-numeric : numeric s ≡ true
  side-numeric = rw k

  words_compare : s.row.scale ≡ o.row.scale → comparison s o ≡ order (number_from 0 s.bytes) (number_from 0 o.bytes)
  words_compare e =
      by_value s o (rw k) (rw l)
      ∙ rw (k, l) (same_scale (number_from 0 s.bytes) (number_from 0 o.bytes) e)

-- digits have no fault
digits_faultless : (s : Side) (other : Row) → s.row.kind ≡ 3 → all is_digit s.bytes ≡ true → not (nowhere (fault s other)) ≡ false
digits_faultless s other k d = valid_faultless s other (rw k (valid_digits s.row.digits s.bytes ∙ d))

-- NUMERIC of unsigned digits
numeric-digits : (s : Side) → s.row.kind ≡ 3 → class_holds 10 s.row.kind s.row.digits s.bytes ≡ all is_digit s.bytes
unfolding class_holds
numeric-digits s k = rw k (valid_digits s.row.digits s.bytes)

-- the bytes of an operand are bytes, and at most as many as its row says
part_small : (row : Row) {bytes : List ℕ} → Bytes bytes → Bytes (part row bytes)
part_small row b = bytes_take row.size (bytes_drop row.offset b)

part-most : (row : Row) (bytes : List ℕ) → length (part row bytes) ≤ row.size
part-most row bytes = omega (arith, length-take row.size (drop row.offset bytes))

module _ (lent : Lent) (content : List ℕ) (token : ℕ) where
  item_row_lem : Row
  item_row_lem = row_at lent.items (index_of token)

  literal_row_lem : Row
  literal_row_lem = row_at lent.literals (index_of token)

  pub operand_small : Bytes content → Bytes lent.bytes → Bytes (operand_bytes lent content token)
  unfolding item_row_lem literal_row_lem
  operand_small c b = by (is_item token)
    where
      by : (t : Bool) → Bytes (cond t (part item_row_lem content) (part literal_row_lem lent.bytes))
      by true = part_small item_row_lem c
      by false = part_small literal_row_lem b

  operand_most : length (operand_bytes lent content token) ≤ (row_of lent token).size
  unfolding item_row_lem literal_row_lem
  operand_most = by (is_item token)
    where
      by : (t : Bool) → length (cond t (part item_row_lem content) (part literal_row_lem lent.bytes)) ≤ (cond t item_row_lem literal_row_lem).size
      by true = part-most item_row_lem content
      by false = part-most literal_row_lem lent.bytes

-- an item of a record that stands in a file
pub item_field : (lent : Lent) (file : List ℕ) (base len token end : ℕ) → is_item token ≡ true
    → (row_of lent token).offset + (row_of lent token).size ≤ len → end ≡ base + ((row_of lent token).offset + (row_of lent token).size)
    → operand_bytes lent (take len (drop base file)) token ≡ take (row_of lent token).size (drop (end - (row_of lent token).size) file)
item_field lent file base len token end i h e = rw i (in_file (row_at lent.items (index_of token)) (rw i at h) (rw i at e))
  where
    in_file : (row : Row) → row.offset + row.size ≤ len → end ≡ base + (row.offset + row.size)
        → part row (take len (drop base file)) ≡ take row.size (drop (end - row.size) file)
    in_file row h e =
        let rest : row.offset + (len - row.offset) ≡ len = omega arith in
        let at : end - row.size ≡ base + row.offset = omega arith in
        ap (take row.size) (rw rest at (drop-take row.offset (len - row.offset) (drop base file)))
        ∙ take-take row.size (len - row.offset) (drop row.offset (drop base file)) (omega arith)
        ∙ rw at (ap (take row.size) (drop-drop row.offset base file))

-- what a row says that is read as a word
pub word_row : (row : Row) → fits_word row ≡ true → (row.kind ≡ 3) × (row.size ≤ 8)
word_row row e =
    let p = both (eqb row.kind _) (leb row.size _) e in
    (eqb-true _ _ p.0, leb-true _ _ p.1)

-- a relation of two fields of digits at one scale, by their words
pub words_outcome : (word : ℕ) (negated : Bool) (s o : Side) → fits_word s.row ≡ true → fits_word o.row ≡ true → s.row.scale ≡ o.row.scale
    → Bytes s.bytes → Bytes o.bytes → length s.bytes ≤ s.row.size → length o.bytes ≤ o.row.size
    → digits_in 8 (digit_word s.bytes) ≡ true → digits_in 8 (digit_word o.bytes) ≡ true
    → truth (turned negated (relation_holds word (order (digit_word s.bytes) (digit_word o.bytes)))) ≡ relation_outcome word negated s o
words_outcome word negated s o f g scale b1 b2 m1 m2 d1 d2 =
    let k = word_row s.row f in
    let l = word_row o.row g in
    let t1 = sym (word_test b1 (omega (arith, m1, k.1))) ∙ d1 in
    let t2 = sym (word_test b2 (omega (arith, m2, l.1))) ∙ d2 in
    relation_goes word negated {s = s} {s' = s} {o = o} {o' = o} refl refl (digits_faultless s o.row k.0 t1) (digits_faultless o s.row l.0 t2)
    (word-order b1 b2 t1 t2 ∙ sym (words_compare s o k.0 l.0 scale))

module _ (lent : Lent) (content : List ℕ) (switches subject relation object : ℕ) where
  pub relation_by_words_lem : {word : ℕ} {negated : Bool} → test_of relation ≡ Relation word negated
      → fits_word (row_of lent subject) ≡ true → fits_word (row_of lent object) ≡ true
      → (row_of lent subject).scale ≡ (row_of lent object).scale
      → Bytes (operand_bytes lent content subject) → Bytes (operand_bytes lent content object)
      → digits_in 8 (digit_word (operand_bytes lent content subject)) ≡ true
      → digits_in 8 (digit_word (operand_bytes lent content object)) ≡ true
      → outcome lent content switches subject relation object
      ≡ truth (answered (asked_of word negated) (digit_word (operand_bytes lent content subject)) (digit_word (operand_bytes lent content object)))
  unfolding outcome
  relation_by_words_lem {word} {negated} e f g scale b1 b2 d1 d2 =
      let s = side_of lent content subject in
      let o = side_of lent content object in
      rw e
      (sym (words_outcome word negated s o f g scale b1 b2 (operand_most lent content subject) (operand_most lent content object) d1 d2)
      ∙ ap truth (asked_answers word negated (digit_word s.bytes) (digit_word o.bytes)))

  pub numeric_by_word_lem : {negated : Bool} → test_of relation ≡ Class 10 negated → fits_word (row_of lent subject) ≡ true
      → Bytes (operand_bytes lent content subject)
      → outcome lent content switches subject relation object
      ≡ truth (turned negated (digits_in 8 (digit_word (operand_bytes lent content subject))))
  unfolding outcome
  numeric_by_word_lem {negated} e f b =
      let s = side_of lent content subject in
      let k = word_row (row_of lent subject) f in
      rw e
      (ap (λ (t : Bool). truth (turned negated t))
      (numeric-digits s k.0 ∙ sym (word_test b (omega (arith, operand_most lent content subject, k.1)))))
