-- A block of at most 64 records of one size, which start at a byte of a file: one row of a plan judged for each of them.
use Rattle.std.specs.Prelude.{◌≡◌, Bool, true, false, not, cond, ◌&&◌, List, ℕ, ◌+◌, ◌-◌, ◌*◌, ◌<◌, ◌≤◌, length, get_or, take, drop, eqb, ltb}
use Rattle.tables.specs.declared.Outcome.{Outcome}
use Rattle.tables.specs.declared.Outcome.TheVariants.{True as Holds, False as Fails}
use Rattle.content.specs.declared.Row.{Row}
use Rattle.tables.specs.Operands.{Lent}
use Rattle.values.specs.Truth.{turned, outcome, Readable}
use Rattle.grammar.specs.declared.PlanRow.{PlanRow}
use Rattle.digit_words.specs.declared.Asked.{Asked}
use Rattle.byte_words.specs.Words.{digit_word, digits_in}
use Rattle.block_truths.specs.declared.Extent.{Extent}
use Rattle.block_truths.specs.declared.Bits.{Bits}
use Rattle.block_truths.specs.declared.OrderBits.{OrderBits}

-- record j of the block
abbrev pub record_at : List ℕ → ℕ → ℕ → ℕ → List ℕ
record_at records from size j = take size (drop (from + j * size) records)

-- "A simple condition gives true, false or its stop": a truth that is 0 or 1 is what it comes to, and of any other number nothing is said
pub record Right (out : Outcome) (truth : ℕ) : Type 0 where
  pub fails : truth ≡ 0 → out ≡ Fails
  pub holds : truth ≡ 1 → out ≡ Holds

-- what row r comes to on record j
abbrev pub outcome_at : Lent → List ℕ → ℕ → ℕ → ℕ → PlanRow → ℕ → Outcome
outcome_at lent records from size switches r j = outcome lent (record_at records from size j) switches r.subject r.relation r.object

-- What is left in the numbers of a block: of the first n records each has the number that it is to have, and the rest of the numbers are as they were.
pub record Told (n : ℕ) (P : ℕ → ℕ → Type 0) (before after : List ℕ) : Type 0 where
  pub told : (k : ℕ) → k < n → P k (get_or after k 0)
  pub rest : drop n after ≡ drop n before

-- record k has this number
abbrev pub Numbered : ℕ → (ℕ → ℕ) → List ℕ → List ℕ → Type 0
Numbered n number before after = Told n (λ k v. v ≡ number k) before after

-- a record that stands at a place has the number that it is to have, and any other has the number that it had
pub record Standing (at : List ℕ) (place : ℕ) (P : ℕ → ℕ → Type 0) (before : List ℕ) (k v : ℕ) : Type 0 where
  pub here : get_or at k 0 ≡ place → P k v
  pub elsewhere : (get_or at k 0 ≡ place → ⊥) → v ≡ get_or before k 0

-- the truths of row r are right for each of the first n records
abbrev pub JudgesAll : Lent → List ℕ → ℕ → ℕ → ℕ → ℕ → PlanRow → List ℕ → List ℕ → Type 0
JudgesAll lent records from size n switches r before truths = Told n (λ k v. Right (outcome_at lent records from size switches r k) v) before truths

-- for each of them that stands at a place
abbrev pub JudgesAt : Lent → List ℕ → ℕ → ℕ → ℕ → ℕ → PlanRow → List ℕ → ℕ → List ℕ → List ℕ → Type 0
JudgesAt lent records from size n switches r at place before truths =
    Told n (Standing at place (λ k v. Right (outcome_at lent records from size switches r k) v) before) before truths

-- What is needed of a block: some records, at most 64, and each lies in the file.
pub record Laid (records : List ℕ) (from size n : ℕ) : Type 0 where
  pub some : 1 ≤ n
  pub few : n ≤ 64
  pub within : (j : ℕ) → j < n → from + j * size + size ≤ length records

-- and a row that can be read on each record
pub record Judgeable (lent : Lent) (records : List ℕ) (from size n : ℕ) (r : PlanRow) : Type 0 where
  pub laid : Laid records from size n
  pub readable : (j : ℕ) → j < n → Readable lent (record_at records from size j) r.subject r.relation r.object

-- a field of 1 to 8 bytes, which ends in the record
pub record Field (size end width : ℕ) : Type 0 where
  pub some : 1 ≤ width
  pub most : width ≤ 8
  pub inside : end ≤ size

-- an item of this row is one
abbrev pub FieldOf : ℕ → Row → Type 0
FieldOf size row = Field size (row.offset + row.size) row.size

-- in a record that starts at this byte it ends in the file, with 8 bytes of the file before its end
pub record There (bytes base end width : ℕ) : Type 0 where
  pub some : 1 ≤ width
  pub most : width ≤ 8
  pub after : 8 ≤ base + end
  pub inside : base + end ≤ bytes

-- its word there
abbrev pub word_in : List ℕ → ℕ → ℕ → ℕ → ℕ
word_in records base end width = digit_word (take width (drop (base + end - width) records))

-- and in record k
abbrev pub word_at : List ℕ → ℕ → ℕ → ℕ → ℕ → ℕ → ℕ
word_at records from size end width k = word_in records (from + k * size) end width

-- the truth of a comparison of words, of three truths: for less, for the same, and for more; or 2 where the words are not valid
abbrev pub compared : Bool → ℕ → ℕ → ℕ → ℕ → ℕ → ℕ
compared valid less same more a b = cond valid (cond (ltb a b) less (cond (eqb a b) same more)) 2

-- the truth of a test of two words, of two truths; or 2 where the words are not valid
abbrev pub tested : Bool → Bool → ℕ → ℕ → ℕ
tested valid test holds fails = cond valid (cond test holds fails) 2

-- the truth of a test of two fields in record k
abbrev pub tested_at : (ℕ → ℕ → Bool) → List ℕ → ℕ → ℕ → Extent → Extent → Bits → ℕ → ℕ
tested_at test records from size first second bits k =
    let a = word_at records from size first.end first.width k in
    let b = word_at records from size second.end second.width k in
    tested (digits_in 8 a && digits_in 8 b) (test a b) bits.holds bits.fails

abbrev pub bit : Bool → ℕ
bit b = cond b 1 0

-- the truth of what a relation asks (`answered`), by the three tests of two words
abbrev pub coded : Asked → Bool → Bool → Bool → ℕ
coded asked less same more = bit (turned asked.turned (cond asked.equal same (cond asked.second more less)))

-- the truths of a test that NOT may turn
abbrev pub bits_of : Bool → Bits
bits_of negated = record { holds = bit (turned negated true); fails = bit (turned negated false) }

-- the truths of a relation by the order of two words, of which the second may be its first side
abbrev pub order_bits : Asked → Bool → OrderBits
order_bits asked exchanged =
    record {
      less = coded asked (not exchanged) false exchanged;
      same = coded asked false true false;
      more = coded asked exchanged false (not exchanged);
    }

-- the word of an item of this row in record k
abbrev pub field_at : List ℕ → ℕ → ℕ → Row → ℕ → ℕ
field_at records from size row k = word_at records from size (row.offset + row.size) row.size k

-- the truth of a relation of two words, where they are valid
abbrev pub related : Asked → Bool → ℕ → ℕ → ℕ
related asked valid a b = compared valid (coded asked true false false) (coded asked false true false) (coded asked false false true) a b

-- the same, where the second word may be the relation's first side
abbrev pub related_to : Asked → Bool → Bool → ℕ → ℕ → ℕ
related_to asked exchanged valid a b =
    compared valid (coded asked (not exchanged) false exchanged) (coded asked false true false) (coded asked exchanged false (not exchanged)) a b

-- a word of digits, and the truths of a relation of it and an item of each of the first n records
pub record Related (records : List ℕ) (from size n : ℕ) (row : Row) (asked : Asked) (exchanged : Bool) (word : ℕ) (before truths : List ℕ) : Type 0 where
  pub digits : digits_in 8 word ≡ true
  pub numbers : Numbered n (λ k. related_to asked exchanged (digits_in 8 (field_at records from size row k)) (field_at records from size row k) word) before truths
