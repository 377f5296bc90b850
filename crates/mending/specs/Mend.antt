-- Document 02, m), "Mending blank meters".
use Rattle.std.specs.Prelude.{Bool, cond, ◌&&◌, List, [], ◌∷◌, ◌++◌, ℕ, suc, ◌≤◌, length, drop, set, eqb, leb, Err, Ok}
use Rattle.content.specs.Content.{all, first_byte, last_byte, but_first, but_last}
use Rattle.content.specs.Letters.{is_space}
use Rattle.content.specs.WrongByte.{valid_content}
use Rattle.tables.specs.Rows.{row_at, row_count}
use Rattle.tables.specs.Refusals.{first_of, Check, Written}
use Rattle.items.specs.Items.{part_at, rewritten}
use Rattle.items.specs.Lines.{item_lines, overlap_check, long_check, room_check}
use Rattle.content.specs.Kinds.{kind_sign_leading, kind_sign_trailing, is_zoned}

-- "spaces leading its digit bytes .. become 0"
unfoldable pub filled : List ℕ → List ℕ
filled [] = []
filled (b ∷ bytes) = cond (is_space b) (0x30 ∷ filled bytes) (b ∷ bytes)

-- "before a digit": where the digit bytes are spaces only, none of them is before a digit. (Where another byte than a digit
-- follows the spaces, the item is not valid afterwards.)
unfoldable pub leading : List ℕ → List ℕ
leading bytes = cond (all is_space bytes) bytes (filled bytes)

-- "a sign byte of space in a separate sign" becomes +
abbrev pub sign_of : ℕ → ℕ
sign_of b = cond (is_space b) 0x2b b

-- an item of kinds 3 to 6 with both done: the sign of kind 5 leads, that of kind 6 trails, and "kind 4's last byte counts as" a digit
unfoldable pub attempt : ℕ → List ℕ → List ℕ
attempt kind bytes =
    cond (eqb kind kind_sign_leading) (sign_of (first_byte bytes) ∷ leading (but_first bytes))
    (cond (eqb kind kind_sign_trailing) (leading (but_last bytes) ++ sign_of (last_byte bytes) ∷ []) (leading bytes))

-- "in each item of kinds 3 to 6 ..", "if the item is then valid; otherwise the item is untouched"
unfoldable pub mended_item : ℕ → ℕ → List ℕ → List ℕ
mended_item kind digits bytes = cond (is_zoned kind && valid_content kind digits (attempt kind bytes)) (attempt kind bytes) bytes

abbrev pub mended_at : List ℕ → List ℕ → ℕ → List ℕ
mended_at items content v = mended_item (row_at items v).kind (row_at items v).digits (part_at items v content)

abbrev pub mended_record : List ℕ → List ℕ → List ℕ
mended_record items content = rewritten items (mended_at items content) content (row_count items)

-- "each changed offset with its old and new byte, three numbers, in rising order": from an offset on
unfoldable pub changes_from : ℕ → List ℕ → List ℕ → List ℕ
changes_from at [] news = []
changes_from at (old ∷ olds) [] = []
changes_from at (old ∷ olds) (new ∷ news) =
    cond (eqb old new) (changes_from (suc at) olds news) (at ∷ old ∷ new ∷ changes_from (suc at) olds news)

abbrev pub changes : List ℕ → List ℕ → List ℕ
changes items content = changes_from 0 content (mended_record items content)

-- "It refuses with 1, 2, 19 as k) does, 12, then 10 for the list"
abbrev pub mend_lines : List ℕ → List ℕ → List Check
mend_lines items content = item_lines items ++ overlap_check items ∷ long_check items content ∷ []

abbrev pub mend_line : List ℕ → List ℕ → ℕ → Check
mend_line items content room = first_of (mend_lines items content ++ room_check (length (changes items content)) room ∷ [])

-- what a mending answers, and what it leaves in the record and in the list: "every refusal leaves the record unchanged"
pub record Mending : Type 0 where
  pub answer : Written
  pub content : List ℕ
  pub list : List ℕ

abbrev pub mend_by : Check → List ℕ → List ℕ → List ℕ → List ℕ → Mending
mend_by (Err refusal) mended listed content list = record { answer = Err refusal; content = content; list = list }
mend_by (Ok _) mended listed content list =
    record { answer = Ok (length listed); content = mended; list = listed ++ drop (length listed) list }

abbrev pub mending : List ℕ → List ℕ → List ℕ → Mending
mending items content list =
    mend_by (mend_line items content (length list)) (mended_record items content) (changes items content) content list

-- "Putting the old bytes back": those of a list, into a record
abbrev pub restored : List ℕ → List ℕ → List ℕ
restored [] content = content
restored (at ∷ []) content = content
restored (at ∷ old ∷ []) content = content
restored (at ∷ old ∷ new ∷ rest) content = restored rest (set content at old)

-- "in rising order": a list of threes whose offsets rise, the first being no less than a number
abbrev pub Rising : ℕ → List ℕ → Type 0
Rising least [] = Unit {0}
Rising least (at ∷ []) = ⊥
Rising least (at ∷ old ∷ []) = ⊥
Rising least (at ∷ old ∷ new ∷ rest) = (least ≤ at) × Rising (suc at) rest
