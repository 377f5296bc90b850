-- Document 02, k): the merge desk.
use Rattle.std.specs.Prelude.{Bool, true, false, cond, not, ◌&&◌, List, [], ◌∷◌, ◌++◌, ℕ, length, drop, eqb, Result, Ok, Err}
use Rattle.tables.specs.declared.Refusal.{Refusal}
use Rattle.tables.specs.declared.Refusal.TheVariants.{Lengths}
use Rattle.tables.specs.declared.Verdict.{Verdict}
use Rattle.tables.specs.declared.Verdict.TheVariants.{True, False, Refused as Stopped}
use Rattle.tables.specs.Rows.{row_count}
use Rattle.tables.specs.Operands.{Lent}
use Rattle.tables.specs.Refusals.{unless, first_of, Check}
use Rattle.values.specs.Names.{lent_lines}
use Rattle.grammar.specs.Plan.{plan_check}
use Rattle.rules.specs.Calls.{run_gives}
use Rattle.items.specs.Items.{elementary_at, part_at, same, rewritten, listed}
use Rattle.items.specs.Lines.{overlap_check, long_check, room_check}
use Rattle.merging.specs.declared.Merged.{Merged}

-- "the copy two members began from, a first and a second copy", with the item table that parts them
pub record Copies : Type 0 where
  pub items : List ℕ
  pub old : List ℕ
  pub first : List ℕ
  pub second : List ℕ

abbrev pub copies_of : List ℕ → List ℕ → List ℕ → List ℕ → Copies
copies_of items old first second = record { items = items; old = old; first = first; second = second }

-- "a plan run on the first copy decides, true for the first and false for the second. If the run refuses, the item keeps its
-- old bytes"
abbrev pub decided : Verdict → List ℕ → List ℕ → List ℕ → List ℕ
decided True old first second = first
decided False old first second = second
decided (Stopped refusal) old first second = old

abbrev pub is_stopped : Verdict → Bool
is_stopped True = false
is_stopped False = false
is_stopped (Stopped refusal) = true

-- "changed apart": both sides changed the item, and not alike
unfoldable pub changed_apart : List ℕ → List ℕ → List ℕ → Bool
changed_apart old first second = not (same first old) && not (same second old) && not (same first second)

-- "Each elementary item that one side changed takes that side's bytes; changed alike, those; changed apart, a plan .. decides"
unfoldable pub merged_item : Verdict → List ℕ → List ℕ → List ℕ → List ℕ
merged_item verdict old first second =
    cond (same first old) second
    (cond (same second old) first
    (cond (same first second) first
    (decided verdict old first second)))

module _ (copies : Copies) where
  -- row v is an elementary item that was changed apart
  abbrev pub apart_at : ℕ → Bool
  apart_at v =
      elementary_at copies.items v
      && changed_apart (part_at copies.items v copies.old) (part_at copies.items v copies.first) (part_at copies.items v copies.second)

  -- the rows of such items, "in row order"
  abbrev pub apart_entry : ℕ → List ℕ
  apart_entry v = cond (apart_at v) (v ∷ []) []

  abbrev pub apart_rows : List ℕ
  apart_rows = listed apart_entry (row_count copies.items)

  -- the bytes of row v in the merged record
  abbrev pub merged_at : Verdict → ℕ → List ℕ
  merged_at verdict v =
      merged_item verdict (part_at copies.items v copies.old) (part_at copies.items v copies.first) (part_at copies.items v copies.second)

  -- the merged record: "Bytes in no elementary item stay old."
  abbrev pub merged_record : Verdict → List ℕ
  merged_record verdict = rewritten copies.items (merged_at verdict) copies.old (row_count copies.items)

  -- "If the run refuses, .. its row number is listed as contested, in row order"
  abbrev pub contested : Verdict → List ℕ
  contested verdict = cond (is_stopped verdict) apart_rows []

-- 20: "records of unequal length with 20 at 0"
abbrev pub length_check : List ℕ → List ℕ → List ℕ → Check
length_check old first second = unless (eqb (length first) (length old) && eqb (length second) (length old)) Lengths

-- "The order is 1 to 4, 18, 19, 20, 11, 12, then 10 for room; each refuses the merge whole."
abbrev pub desk_lines : Lent → List ℕ → List ℕ → List ℕ → List ℕ → List Check
desk_lines lent plan old first second =
    lent_lines lent
    ++ overlap_check lent.items
    ∷ length_check old first second
    ∷ plan_check lent plan
    ∷ long_check lent.items old
    ∷ []

-- 10 "for room": the record first, then the contested rows ("a second output after the merged record")
abbrev pub room_lines : ℕ → ℕ → List ℕ → List ℕ → List Check
room_lines bytes rows out list = room_check bytes (length out) ∷ room_check rows (length list) ∷ []

-- what a merge answers, and what it leaves in its two outputs
pub record Merging : Type 0 where
  pub answer : Result Merged Refusal
  pub content : List ℕ
  pub rows : List ℕ

-- the counts of bytes and of contested rows written from the start of the outputs; a refusal changes neither
abbrev pub merge_by : Check → ℕ → List ℕ → List ℕ → List ℕ → List ℕ → Merging
merge_by (Err refusal) bytes merged listed out list = record { answer = Err refusal; content = out; rows = list }
merge_by (Ok _) bytes merged listed out list =
    record {
      answer = Ok (record { bytes = bytes; rows = length listed });
      content = merged ++ drop bytes out;
      rows = listed ++ drop (length listed) list;
    }

-- with the verdict of the run
abbrev pub merge_with : List Check → Copies → Verdict → List ℕ → List ℕ → Merging
merge_with lines copies verdict out list =
    merge_by (first_of (lines ++ room_lines (length copies.old) (length (contested copies verdict)) out list))
    (length copies.old) (merged_record copies verdict) (contested copies verdict) out list

-- the whole answer and both outputs
abbrev pub merge_gives : Lent → List ℕ → ℕ → List ℕ → List ℕ → List ℕ → List ℕ → List ℕ → Merging
merge_gives lent plan switches old first second out list =
    merge_with (desk_lines lent plan old first second) (copies_of lent.items old first second) (run_gives lent plan first switches).verdict out list
