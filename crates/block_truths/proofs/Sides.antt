-- The two sides of a relation over a block of records, told by words that are made of their bytes.
use mathlib.Core.Path.{◌≡◌, refl, sym, ap, ap₂, ◌∙◌}
use mathlib.Core.Bool.{Bool, true, false, ◌&&◌}
use mathlib.Core.List.{List}
use Prim.Native.Nat.{ℕ, ◌+◌, ◌-◌, ◌*◌, ◌<◌, ◌≤◌}
use lib.ListN.{take, drop}
use Rattle.content.specs.declared.Row.{Row}
use Rattle.tables.specs.Tokens.{is_item}
use Rattle.tables.specs.Operands.{Lent, row_of, operand_bytes}
use Rattle.tables.proofs.Bytes.{row_facts}
use Rattle.tables.proofs.Tests.{both}
use Rattle.typing.specs.declared.Test.TheVariants.{Relation}
use Rattle.typing.specs.Tests.{test_of}
use Rattle.values.specs.Truth.{truth, Sided}
use Rattle.values.proofs.Reading.{read_relation}
use Rattle.grammar.specs.declared.PlanRow.{PlanRow}
use Rattle.digit_words.specs.Asked.{asked_of, answered}
use Rattle.digit_words.proofs.Outcomes.{item_field}
use Rattle.block_truths.specs.Columns.{record_at, outcome_at, related, related_to, Numbered, JudgesAll, Judgeable, FieldOf}
use Rattle.block_truths.proofs.Firsts.{first_readable, item_inside}
use Rattle.block_truths.proofs.Passing.{retold}
use Rattle.block_truths.proofs.Rights.{related-right, first-right, second_right}

-- the word of an operand on record k
abbrev pub side_word : (List ℕ → ℕ) → Lent → List ℕ → ℕ → ℕ → ℕ → ℕ → ℕ
side_word W lent records from size token k = W (operand_bytes lent (record_at records from size k) token)

-- the word of an item of a row there
abbrev pub item_word : (List ℕ → ℕ) → List ℕ → ℕ → ℕ → Row → ℕ → ℕ
item_word W records from size row k = W (take row.size (drop (from + k * size + (row.offset + row.size) - row.size) records))

pub item_word_lem : (W : List ℕ → ℕ) (lent : Lent) (records : List ℕ) (from size token k : ℕ) → is_item token ≡ true
    → (row_of lent token).offset + (row_of lent token).size ≤ size → item_word W records from size (row_of lent token) k ≡ side_word W lent records from size token k
item_word_lem W lent records from size token k i l =
    ap W (sym (item_field lent records (from + k * size) size token (from + k * size + ((row_of lent token).offset + (row_of lent token).size)) i l refl))

-- a literal's word is the same on any record
literal-word : (W : List ℕ → ℕ) (lent : Lent) (records other : List ℕ) (from size token k : ℕ) → is_item token ≡ false
    → W (operand_bytes lent other token) ≡ side_word W lent records from size token k
literal-word W lent records other from size token k i = rw i

module _ {lent : Lent} {records : List ℕ} {from size n : ℕ} {r : PlanRow} (J : Judgeable lent records from size n r) where
  -- an item of up to 8 bytes is a field of each record
  pub field_of : {token : ℕ} → Sided lent (take (from + size - from) (drop from records)) token → is_item token ≡ true → (row_of lent token).size ≤ 8
      → FieldOf size (row_of lent token)
  field_of {token} s i m = record { some = (row_facts (row_of lent token) s.fit.sound).some; most = m; inside = item_inside J s i }

  module _ {word : ℕ} {negated : Bool} (e : test_of r.relation ≡ Relation word negated) where
    -- the two sides of the first record
    pub first_sides : Sided lent (take (from + size - from) (drop from records)) r.subject × Sided lent (take (from + size - from) (drop from records)) r.object
    first_sides = read_relation (first_readable J) e

    module _ (W : List ℕ → ℕ) (valid : ℕ → Bool) (switches : ℕ)
        (by_words_lem : (k : ℕ) → k < n → valid (side_word W lent records from size r.subject k) ≡ true → valid (side_word W lent records from size r.object k) ≡ true
        → outcome_at lent records from size switches r k
        ≡ truth (answered (asked_of word negated) (side_word W lent records from size r.subject k) (side_word W lent records from size r.object k))) where
      subject_word : (k : ℕ) → is_item r.subject ≡ true
          → item_word W records from size (row_of lent r.subject) k ≡ side_word W lent records from size r.subject k
      subject_word k i = item_word_lem W lent records from size r.subject k i (item_inside J first_sides.0 i)

      object-word : (k : ℕ) → is_item r.object ≡ true
          → item_word W records from size (row_of lent r.object) k ≡ side_word W lent records from size r.object k
      object-word k i = item_word_lem W lent records from size r.object k i (item_inside J first_sides.1 i)

      -- two items
      pub items-judged : {before after : List ℕ} → is_item r.subject ≡ true → is_item r.object ≡ true
          → Numbered n (λ k. related (asked_of word negated)
          (valid (item_word W records from size (row_of lent r.subject) k) && valid (item_word W records from size (row_of lent r.object) k))
          (item_word W records from size (row_of lent r.subject) k) (item_word W records from size (row_of lent r.object) k)) before after
          → JudgesAll lent records from size n switches r before after
      items-judged i1 i2 t =
          retold t
          (λ k l v h. let left = side_word W lent records from size r.subject k in
          let right = side_word W lent records from size r.object k in
          related-right (asked_of word negated) left right (valid left && valid right)
          (h ∙ ap₂ (λ (a : ℕ) (c : ℕ). related (asked_of word negated) (valid a && valid c) a c) (subject_word k i1) (object-word k i2))
          (λ t. let d = both (valid left) (valid right) t in by_words_lem k l d.0 d.1))

      -- an item and a literal
      pub object-judged : {before after : List ℕ} (other : List ℕ) → is_item r.subject ≡ true → is_item r.object ≡ false → valid (W (operand_bytes lent other r.object)) ≡ true
          → Numbered n (λ k. related_to (asked_of word negated) false (valid (item_word W records from size (row_of lent r.subject) k))
          (item_word W records from size (row_of lent r.subject) k) (W (operand_bytes lent other r.object))) before after
          → JudgesAll lent records from size n switches r before after
      object-judged other i1 i2 d t =
          retold t
          (λ k l v h. let left = side_word W lent records from size r.subject k in
          let right = side_word W lent records from size r.object k in
          let same = literal-word W lent records other from size r.object k i2 in
          first-right (asked_of word negated) left right (valid left)
          (h ∙ ap₂ (λ (a : ℕ) (c : ℕ). related_to (asked_of word negated) false (valid a) a c) (subject_word k i1) same)
          (λ t. by_words_lem k l t (sym (ap valid same) ∙ d)))

      -- a literal and an item
      pub subject_judged : {before after : List ℕ} (other : List ℕ) → is_item r.subject ≡ false → is_item r.object ≡ true → valid (W (operand_bytes lent other r.subject)) ≡ true
          → Numbered n (λ k. related_to (asked_of word negated) true (valid (item_word W records from size (row_of lent r.object) k))
          (item_word W records from size (row_of lent r.object) k) (W (operand_bytes lent other r.subject))) before after
          → JudgesAll lent records from size n switches r before after
      subject_judged other i1 i2 d t =
          retold t
          (λ k l v h. let left = side_word W lent records from size r.subject k in
          let right = side_word W lent records from size r.object k in
          let same = literal-word W lent records other from size r.subject k i1 in
          second_right (asked_of word negated) right left (valid right)
          (h ∙ ap₂ (λ (a : ℕ) (c : ℕ). related_to (asked_of word negated) true (valid a) a c) (object-word k i2) same)
          (λ t. by_words_lem k l (sym (ap valid same) ∙ d) t))
