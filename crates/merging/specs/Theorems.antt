-- Document 02, k): what holds of every merge.
use Rattle.std.specs.Prelude.{◌≡◌, true, false, ◌⊎◌, ℕ, ◌+◌, ◌≤◌, ◌<◌, length, get_or, Ok}
use mathlib.Core.List.{List, Memᴰ}
use Rattle.tables.specs.declared.Refusal.{Refusal}
use Rattle.tables.specs.declared.Verdict.{Verdict}
use Rattle.tables.specs.declared.Verdict.TheVariants.{Refused as Stopped}
use Rattle.tables.specs.Rows.{row_at, row_count}
use Rattle.tables.specs.Operands.{Lent}
use Rattle.tables.specs.Refusals.{first_of}
use Rattle.items.specs.Items.{elementary_at, part_at}
use Rattle.merging.specs.Merge.{Copies, copies_of, decided, apart_at, merged_record, contested, desk_lines, merge_gives}

-- a byte in no elementary item
abbrev pub InNone : List ℕ → ℕ → Type 0
InNone items o =
    (v : ℕ) → v < row_count items → elementary_at items v ≡ true
    → (o < (row_at items v).offset) ⊎ ((row_at items v).offset + (row_at items v).size ≤ o)

module _ (copies : Copies) (verdict : Verdict) where
  -- the bytes of row v in a record
  abbrev pub At : ℕ → List ℕ → List ℕ
  At v content = part_at copies.items v content

  -- What holds of copies that no line refuses, whatever the run gives.
  pub record Merges : Type 0 where
    pub long : length (merged_record copies verdict) ≡ length copies.old
    -- "Bytes in no elementary item stay old."
    pub others : (o : ℕ) → InNone copies.items o → get_or (merged_record copies verdict) o 0 ≡ get_or copies.old o 0
    -- "Each elementary item that one side changed takes that side's bytes"
    pub by_first : (v : ℕ) → v < row_count copies.items → elementary_at copies.items v ≡ true → At v copies.second ≡ At v copies.old
        → At v (merged_record copies verdict) ≡ At v copies.first
    pub by_second : (v : ℕ) → v < row_count copies.items → elementary_at copies.items v ≡ true → At v copies.first ≡ At v copies.old
        → At v (merged_record copies verdict) ≡ At v copies.second
    -- "changed alike, those": so a merge of two equal copies has that copy in every elementary item
    pub alike : (v : ℕ) → v < row_count copies.items → elementary_at copies.items v ≡ true → At v copies.first ≡ At v copies.second
        → At v (merged_record copies verdict) ≡ At v copies.first
    -- "changed apart, a plan run on the first copy decides .. If the run refuses, the item keeps its old bytes"
    pub apart : (v : ℕ) → v < row_count copies.items → elementary_at copies.items v ≡ true → apart_at copies v ≡ true
        → At v (merged_record copies verdict) ≡ decided verdict (At v copies.old) (At v copies.first) (At v copies.second)
    -- every byte stems from one of the three copies, at the same place
    pub stems : (o : ℕ) → (get_or (merged_record copies verdict) o 0 ≡ get_or copies.old o 0)
        ⊎ ((get_or (merged_record copies verdict) o 0 ≡ get_or copies.first o 0) ⊎ (get_or (merged_record copies verdict) o 0 ≡ get_or copies.second o 0))

abbrev pub MergesAsSaid : Type 0
MergesAsSaid =
    (lent : Lent) (plan old first second : List ℕ) → first_of (desk_lines lent plan old first second) ≡ Ok tt → (verdict : Verdict)
    → Merges (copies_of lent.items old first second) verdict

-- "its row number is listed as contested": where the run refuses, the rows changed apart and no others
pub record Contests (copies : Copies) : Type 0 where
  pub all : (refusal : Refusal) (v : ℕ) → v < row_count copies.items → apart_at copies v ≡ true → Memᴰ v (contested copies (Stopped refusal))
  pub only : (verdict : Verdict) (v : ℕ) → Memᴰ v (contested copies verdict) → (v < row_count copies.items) × (apart_at copies v ≡ true)

abbrev pub ContestsAsSaid : Type 0
ContestsAsSaid = (copies : Copies) → Contests copies

-- no item was changed apart
abbrev pub NoneApart : Copies → Type 0
NoneApart copies = (v : ℕ) → v < row_count copies.items → apart_at copies v ≡ false

-- "Exchanging the copies changes nothing where no item was changed apart": the whole answer, refusals too, and both outputs
abbrev pub Exchangeable : Type 0
Exchangeable =
    (lent : Lent) (plan : List ℕ) (switches : ℕ) (old first second out list : List ℕ) → NoneApart (copies_of lent.items old first second)
    → merge_gives lent plan switches old first second out list ≡ merge_gives lent plan switches old second first out list
