-- Document 02, j), "What differs between two copies".
use Rattle.std.specs.Prelude.{Bool, true, cond, not, ◌&&◌, List, [], ◌∷◌, ◌++◌, ◌≡◌, ℕ, length, drop, Err, Ok}
use Rattle.content.specs.Content.{value}
use Rattle.content.specs.WrongByte.{valid_content}
use Rattle.compare.specs.Order.{is_equal}
use Rattle.compare.specs.Compared.{scaled_order}
use Rattle.tables.specs.declared.Refusal.TheVariants.{Record}
use Rattle.content.specs.declared.Row.{Row}
use Rattle.tables.specs.Rows.{row_at, row_count, row_sound, is_numeric, lies_in, part}
use Rattle.tables.specs.Refusals.{first_of, first_failing, Check, Written}
use Rattle.items.specs.Items.{is_elementary, same, listed}
use Rattle.items.specs.Lines.{item_lines, room_check}

-- the letters V, B and I
abbrev pub letter_v : ℕ
letter_v = 0x56

abbrev pub letter_b : ℕ
letter_b = 0x42

abbrev pub letter_i : ℕ
letter_i = 0x49

-- "numeric values are equal": by 01's comparison, at the row's scale. Zero has one value whatever its sign.
abbrev pub same_value : Row → List ℕ → List ℕ → Bool
same_value r xs ys = is_equal (scaled_order (value r.kind xs) r.scale (value r.kind ys) r.scale)

abbrev pub both_valid : Row → List ℕ → List ℕ → Bool
both_valid r xs ys = valid_content r.kind r.digits xs && valid_content r.kind r.digits ys

-- "V if values differ, B if numeric values are equal, I if either content is invalid", "Nonnumeric items give V"
abbrev pub mark : Row → List ℕ → List ℕ → ℕ
mark r xs ys = cond (is_numeric r) (cond (both_valid r xs ys) (cond (same_value r xs ys) letter_b letter_v) letter_i) letter_v

-- an "elementary item whose bytes differ"
abbrev pub differs : Row → List ℕ → List ℕ → Bool
differs r xs ys = is_elementary r && not (same xs ys)

-- what it lists: "row number", and its mark
abbrev pub entry_of : Row → ℕ → List ℕ → List ℕ → List ℕ
entry_of r v xs ys = cond (differs r xs ys) (v ∷ mark r xs ys ∷ []) []

abbrev pub entry_at : List ℕ → List ℕ → List ℕ → ℕ → List ℕ
entry_at items first second v = entry_of (row_at items v) v (part (row_at items v) first) (part (row_at items v) second)

-- "lists each elementary item whose bytes differ, in row order"
abbrev pub differences : List ℕ → List ℕ → List ℕ → List ℕ
differences items first second = listed (entry_at items first second) (row_count items)

-- 12, of both records: the first row that either ends before
abbrev pub lies_in_both : List ℕ → List ℕ → List ℕ → ℕ → Bool
lies_in_both items first second v = lies_in (row_at items v) first && lies_in (row_at items v) second

abbrev pub end_check : List ℕ → List ℕ → List ℕ → Check
end_check items first second = first_failing (lies_in_both items first second) Record 0 (row_count items)

-- 1, 2, 12
abbrev pub differ_lines : List ℕ → List ℕ → List ℕ → List Check
differ_lines items first second = item_lines items ++ end_check items first second ∷ []

-- what the call answers and leaves in its output: the count of numbers written from its start, or a refusal that changes nothing
pub record Differing : Type 0 where
  pub answer : Written
  pub output : List ℕ

abbrev pub differ_by : Check → List ℕ → List ℕ → Differing
differ_by (Err refusal) list output = record { answer = Err refusal; output = output }
differ_by (Ok _) list output = record { answer = Ok (length list); output = list ++ drop (length list) output }

-- then 10
abbrev pub differing : List ℕ → List ℕ → List ℕ → List ℕ → Differing
differing items first second output =
    differ_by (first_of (differ_lines items first second ++ room_check (length (differences items first second)) (length output) ∷ []))
    (differences items first second) output

-- what the functions of one row assume: it is sound, and lies in both records
pub record Held (row : Row) (first second : List ℕ) : Type 0 where
  pub sound : row_sound row ≡ true
  pub in_first : lies_in row first ≡ true
  pub in_second : lies_in row second ≡ true
