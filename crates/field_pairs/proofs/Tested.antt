-- The truths of a test of two fields, record after record.
use mathlib.Core.Path.{◌≡◌, ap, ◌∙◌}
use mathlib.Core.Bool.{Bool, cond, ◌&&◌, and_comm}
use mathlib.Core.List.{List}
use Prim.Native.Nat.{ℕ, ◌+◌, ◌<◌, ◌≤◌}
use lib.Dec.{eqb, ltb}
use lib.ListN.{length, set}
use Rattle.digit_words.specs.declared.Asked.{Asked}
use Rattle.byte_words.specs.Words.{digits_in}
use Rattle.block_truths.specs.declared.Bits.{Bits}
use Rattle.block_truths.specs.declared.Extent.{Extent}
use Rattle.block_truths.specs.Columns.{word_in, word_at, tested, tested_at, bits_of, related, Numbered, Laid}
use Rattle.block_truths.proofs.Passing.{Passing, tells, retold}
use Rattle.block_truths.proofs.Rights.{asked_related}

-- those of the records that are behind are told
abbrev pub Tested : (ℕ → ℕ → Bool) → List ℕ → Extent → Extent → Bits → ℕ → ℕ → ℕ → List ℕ → List ℕ → ℕ → ℕ → Type 0
Tested test records first second bits from size n before now base j =
    Passing (λ k v. v ≡ tested_at test records from size first second bits k) from size n before now base j

-- the next one's truth
pub next-tested : (test : ℕ → ℕ → Bool) (records : List ℕ) (first second : Extent) (bits : Bits) {from size n base j : ℕ} {before now : List ℕ} → Laid records from size n
    → length before ≡ 64 → Tested test records first second bits from size n before now base j → j < n → {a b v : ℕ} {valid : Bool}
    → a ≡ word_in records base first.end first.width → b ≡ word_in records base second.end second.width → valid ≡ digits_in 8 a && digits_in 8 b
    → v ≡ cond valid (cond (test a b) bits.holds bits.fails) 2 → Tested test records first second bits from size n before (set now j v) (base + size) (j + 1)
next-tested test records first second bits L room S l p q d e = tells L room S l (rw (e, d, p, q, S.starts))

-- the test is the one that a relation asks
pub asked_told : (asked : Asked) (test : ℕ → ℕ → Bool) (records : List ℕ) (from size : ℕ) (first second : Extent) {n : ℕ} {before after : List ℕ}
    → ((a b : ℕ) → cond asked.equal (eqb a b) (cond asked.second (ltb b a) (ltb a b)) ≡ test a b)
    → Numbered n (tested_at test records from size first second (bits_of asked.turned)) before after
    → Numbered n (λ k. related asked
    (digits_in 8 (word_at records from size first.end first.width k) && digits_in 8 (word_at records from size second.end second.width k))
    (word_at records from size first.end first.width k) (word_at records from size second.end second.width k)) before after
asked_told asked test records from size first second f t =
    retold t
    (λ k l v e. let a = word_at records from size first.end first.width k in
    let b = word_at records from size second.end second.width k in
    asked_related asked a b (digits_in 8 a && digits_in 8 b) (test a b) (f a b) e)

-- two fields that are exchanged are tested the other way round
pub exchanged : (test : ℕ → ℕ → Bool) (records : List ℕ) (from size : ℕ) (first second : Extent) (bits : Bits) {n : ℕ} {before after : List ℕ}
    → Numbered n (tested_at test records from size second first bits) before after
    → Numbered n (tested_at (λ a b. test b a) records from size first second bits) before after
exchanged test records from size first second bits t =
    retold t
    (λ k l v e. e ∙ ap (λ (valid : Bool). tested valid (test (word_at records from size second.end second.width k)
    (word_at records from size first.end first.width k)) bits.holds bits.fails) (and_comm
    (digits_in 8 (word_at records from size second.end second.width k)) (digits_in 8 (word_at records from size first.end first.width k))))
