-- The texts of a relation over a block of records: what it comes to is told by their words.
use mathlib.Core.Path.{◌≡◌, sym, ap₂}
use mathlib.Core.Bool.{Bool, true, ◌||◌}
use mathlib.Core.List.{List}
use Prim.Native.Nat.{ℕ, ◌+◌, ◌-◌, ◌<◌, ◌≤◌, max}
use native.Mathlib.Omega.{arith}
use lib.Dec.{eqb, leb}
use lib.ListN.{take, drop}
use borrow.Author.Tests.{leb-true}
use Rattle.content.specs.declared.Row.{Row}
use Rattle.tables.specs.Rows.{is_group}
use Rattle.tables.specs.Tokens.{is_item}
use Rattle.tables.specs.Operands.{Lent, row_of, operand_bytes}
use Rattle.tables.proofs.Bytes.{row_facts}
use Rattle.tables.proofs.Tests.{both}
use Rattle.typing.specs.declared.Test.TheVariants.{Relation}
use Rattle.typing.specs.Tests.{test_of}
use Rattle.values.specs.Truth.{truth, Sided}
use Rattle.values.proofs.Reading.{read_relation}
use Rattle.grammar.specs.declared.PlanRow.{PlanRow}
use Rattle.digit_words.specs.Asked.{asked_of, answered}
use Rattle.byte_words.proofs.WordLaws.{Bytes}
use Rattle.text_words.specs.Texts.{fits_text, text_word}
use Rattle.text_words.proofs.Outcomes.{texts_by_words}
use Rattle.block_truths.specs.Columns.{record_at, outcome_at, Judgeable}
use Rattle.block_truths.proofs.Firsts.{small}
use Rattle.block_truths.proofs.Sides.{side_word, field_of}
use Rattle.record_texts.specs.Texts.{TextOf}
use Rattle.text_columns.specs.TextColumns.{by_texts, Literal}

-- a row that is read as a text has at most 8 bytes
text_size : (row : Row) → fits_text row ≡ true → row.size ≤ 8
text_size row f = leb-true _ _ (both (is_group row || eqb row.kind _) (leb row.size _) f).1

-- both sides of a relation are read as texts
pub record Texts (lent : Lent) (r : PlanRow) : Type 0 where
  pub subject : fits_text (row_of lent r.subject) ≡ true
  pub object : fits_text (row_of lent r.object) ≡ true

pub by_both : {lent : Lent} {r : PlanRow} → Texts lent r → by_texts lent r ≡ (is_item r.subject || is_item r.object)
by_both w = rw (w.subject, w.object)

-- how many bytes they are filled to
abbrev pub longer : Lent → PlanRow → ℕ
longer lent r = max (row_of lent r.subject).size (row_of lent r.object).size

pub short : {lent : Lent} {r : PlanRow} → Texts lent r → longer lent r ≤ 8
short {lent} {r} w = omega (arith, text_size (row_of lent r.subject) w.subject, text_size (row_of lent r.object) w.object)

-- an item is a text of each record
pub text_of : {lent : Lent} {records : List ℕ} {from size n : ℕ} {r : PlanRow} (J : Judgeable lent records from size n r) {token filled : ℕ}
    → Sided lent (take (from + size - from) (drop from records)) token → is_item token ≡ true → (row_of lent token).size ≤ filled → filled ≤ 8
    → TextOf size (row_of lent token) filled
text_of J s i m h = record { field = field_of J s i (omega arith); most = m; short = h }

-- an operand has the bytes of a literal
pub literal_of_lem : {lent : Lent} {content : List ℕ} {token filled : ℕ} → Sided lent content token → (row_of lent token).size ≤ filled → filled ≤ 8
    → Literal (operand_bytes lent content token) filled
literal_of_lem {lent} {content} {token} s m h =
    record {
      some = omega (arith, s.fit.sized, (row_facts (row_of lent token) s.fit.sound).some);
      most = omega (arith, s.fit.sized);
      short = h;
    }

-- what the relation comes to on record k
pub by_texts_lem : {lent : Lent} {records : List ℕ} {from size n : ℕ} {r : PlanRow} (J : Judgeable lent records from size n r) (switches : ℕ) → Bytes records
    → Bytes lent.bytes → {word : ℕ} {negated : Bool} → test_of r.relation ≡ Relation word negated → Texts lent r → (k : ℕ) → k < n
    → outcome_at lent records from size switches r k ≡ truth (answered (asked_of word negated)
    (side_word (text_word (longer lent r)) lent records from size r.subject k) (side_word (text_word (longer lent r)) lent records from size r.object k))
by_texts_lem {lent} {records} {from} {size} {n} {r} J switches b m e w k l =
    let s = read_relation (J.readable k l) e in
    texts_by_words lent (record_at records from size k) switches r.subject r.relation r.object e w.subject w.object
    (small lent records from size b m k r.subject) (small lent records from size b m k r.object)
    (sym (ap₂ max s.0.fit.sized s.1.fit.sized))
