-- The sides of a row over a block of records, read as words.
use mathlib.Core.Path.{◌≡◌, ap, ◌∙◌}
use mathlib.Core.Bool.{Bool, true, false, cond}
use mathlib.Core.List.{List}
use Prim.Native.Nat.{ℕ, ◌+◌, ◌<◌, ◌≤◌}
use lib.Dec.{eqb, leb}
use borrow.Author.Tests.{leb-true, eq-eqb}
use Rattle.content.specs.declared.Row.{Row}
use Rattle.tables.specs.Tokens.{is_item}
use Rattle.tables.specs.Operands.{Lent, row_of, operand_bytes}
use Rattle.tables.proofs.Tests.{both}
use Rattle.typing.specs.declared.Test.TheVariants.{Relation, Class}
use Rattle.typing.specs.Tests.{test_of}
use Rattle.values.specs.Truth.{truth, turned}
use Rattle.grammar.specs.declared.PlanRow.{PlanRow}
use Rattle.byte_words.specs.Words.{digit_word, digits_in}
use Rattle.digit_words.specs.Words.{fits_word}
use Rattle.digit_words.specs.Asked.{asked_of, answered}
use Rattle.byte_words.proofs.WordLaws.{Bytes}
use Rattle.digit_words.proofs.Outcomes.{relation_by_words_lem, numeric_by_word_lem}
use Rattle.block_truths.specs.Columns.{record_at, outcome_at, bit, field_at, Right}
use Rattle.block_truths.proofs.Firsts.{small}
use Rattle.block_truths.proofs.Rights.{bit-right, chosen}
use Rattle.block_truths.proofs.Sides.{side_word, item_word_lem}
use Rattle.columns.specs.Judged.{digits_of, relation_by_words}

-- a row that is read as a word has at most 8 bytes
pub word_size : (row : Row) → fits_word row ≡ true → row.size ≤ 8
word_size row f = leb-true _ _ (both (eqb row.kind _) (leb row.size _) f).1

-- both sides of a relation are read as words, at one scale
pub record Worded (lent : Lent) (r : PlanRow) : Type 0 where
  pub subject : fits_word (row_of lent r.subject) ≡ true
  pub object : fits_word (row_of lent r.object) ≡ true
  pub scale : (row_of lent r.subject).scale ≡ (row_of lent r.object).scale

pub sizes : {lent : Lent} {r : PlanRow} → Worded lent r → ((row_of lent r.subject).size ≤ 8) × ((row_of lent r.object).size ≤ 8)
sizes {lent} {r} w = (word_size (row_of lent r.subject) w.subject, word_size (row_of lent r.object) w.object)

-- which relations of them are judged
pub by_sides : {lent : Lent} {r : PlanRow} → Worded lent r → relation_by_words lent r
    ≡ cond (is_item r.subject) (cond (is_item r.object) true (digits_of lent r.object)) (cond (is_item r.object) (digits_of lent r.subject) false)
by_sides {lent} {r} w = rw (w.subject, w.object, eq-eqb (row_of lent r.subject).scale (row_of lent r.object).scale w.scale)

-- a literal's digits are the same on any record
pub literal_digits_lem : (lent : Lent) (other : List ℕ) (token : ℕ) → is_item token ≡ false → digits_in 8 (digit_word (operand_bytes lent other token)) ≡ digits_of lent token
literal_digits_lem lent other token i = rw i

module _ (lent : Lent) (records : List ℕ) (from size switches : ℕ) (r : PlanRow) (b : Bytes records) (m : Bytes lent.bytes) (k : ℕ) where
  -- what a relation comes to on record k
  pub by_words_lem : {word : ℕ} {negated : Bool} → test_of r.relation ≡ Relation word negated → Worded lent r
      → digits_in 8 (side_word digit_word lent records from size r.subject k) ≡ true → digits_in 8 (side_word digit_word lent records from size r.object k) ≡ true
      → outcome_at lent records from size switches r k
      ≡ truth (answered (asked_of word negated) (side_word digit_word lent records from size r.subject k) (side_word digit_word lent records from size r.object k))
  by_words_lem e w d1 d2 =
      relation_by_words_lem lent (record_at records from size k) switches r.subject r.relation r.object e w.subject w.object w.scale
      (small lent records from size b m k r.subject) (small lent records from size b m k r.object) d1 d2

  -- NUMERIC of an item
  pub numeric-right : {negated : Bool} → test_of r.relation ≡ Class 10 negated → fits_word (row_of lent r.subject) ≡ true → is_item r.subject ≡ true
      → (row_of lent r.subject).offset + (row_of lent r.subject).size ≤ size → {v : ℕ}
      → v ≡ cond (digits_in 8 (field_at records from size (row_of lent r.subject) k)) (bit (turned negated true)) (bit (turned negated false))
      → Right (outcome_at lent records from size switches r k) v
  numeric-right {negated} e f i l h =
      let word = side_word digit_word lent records from size r.subject k in
      bit-right (turned negated (digits_in 8 word))
      (numeric_by_word_lem lent (record_at records from size k) switches r.subject r.relation r.object e f (small lent records from size b m k r.subject))
      (h ∙ ap (λ (a : ℕ). cond (digits_in 8 a) (bit (turned negated true)) (bit (turned negated false))) (item_word_lem digit_word lent records from size r.subject k i l)
      ∙ chosen negated (digits_in 8 word))
