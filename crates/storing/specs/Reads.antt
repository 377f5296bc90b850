-- What reading a text leaves in the buffers.
use Rattle.std.specs.Prelude.{◌≡◌, Bool, true, false, List, map, ℕ, ◌*◌, ◌≤◌, length, take, drop}
use Rattle.description.specs.Grammar.{Condition}
use Rattle.description.specs.Limits.{name_marks}
use Rattle.description.specs.Reader.{Parts, parts, table_of, Reading, read, faulty}
use Rattle.description.specs.Stages.{first_over, own_rows}
use Rattle.entries.specs.declared.Noted.{Noted}
use Rattle.entries.specs.Entries.{cap_noted, entry_of}
use Rattle.noting.specs.Stored.{noted_from, Scaled}
use Rattle.storing.specs.Naming.{limit_of, Stores}
use Rattle.storing.specs.declared.Found.{Found}
use Rattle.content.specs.Kinds.{row_width}
use Rattle.tables.specs.Rows.{name_width}

abbrev pub reading_of : Bool → Parts → ℕ → Reading
reading_of true d place = read (table_of d)
reading_of false d place = faulty d place

-- The buffers hold the complete entries of the text, with counts that stop at 65,536, and the names before the first that passes a limit; the answer
-- says what the reading is.
pub record ReadBy (text : List ℕ) (is : Reading) (flat rows places notes : List ℕ) (r : Found) : Type 0 where
  pub exact : List Noted
  pub conditions : List Condition
  pub held : noted_from flat 0 r.count ≡ map cap_noted exact
  pub scaled : Scaled exact
  pub reading : is ≡ reading_of r.whole (parts (map entry_of exact) conditions) r.place
  pub few : row_width * r.count ≤ 4096
  pub limit : first_over (name_marks 0 0 (own_rows (map entry_of exact)) conditions) ≡ limit_of r.names
  pub stores : Stores text (take r.names.count conditions) r.names rows places notes
  pub all : r.names.over ≡ false → r.names.count ≡ length conditions

-- What is not counted is as it was. Free: the stack as far as there are entries; the row; and where the text is no description or a limit is
-- passed, the notes from those counted on to number 448.
pub record Beyond (r : Found) (flat stack rows places notes flat_left stack_left rows_left places_left notes_left row_left : List ℕ) : Type 0 where
  pub entries : drop (r.count * 7) flat_left ≡ drop (r.count * 7) flat
  pub groups : drop r.count stack_left ≡ drop r.count stack
  pub names : drop (r.names.count * name_width) rows_left ≡ drop (r.names.count * name_width) rows
  pub placed : drop r.names.count places_left ≡ drop r.names.count places
  pub noted : drop 448 notes_left ≡ drop 448 notes
  pub literals : r.whole ≡ true → r.names.over ≡ false → drop (r.names.literals * 7) notes_left ≡ drop (r.names.literals * 7) notes
  pub row : length row_left ≡ name_width
