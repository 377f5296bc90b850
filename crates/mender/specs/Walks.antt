-- What the functions that mend a record row by row promise each other.
use Rattle.std.specs.Prelude.{true, List, ◌≡◌, ℕ, ◌+◌, ◌≤◌, ◌<◌, length}
use Rattle.content.specs.declared.Row.{Row}
use Rattle.tables.specs.Rows.{row_at, row_count, part}
use Rattle.items.specs.Items.{elementary_at}
use Rattle.mending.specs.Mend.{mended_item, changes_from}
use Rattle.content.specs.Kinds.{is_zoned}

-- the elementary row that starts next, at an offset or later; the number of rows where there is none
pub record Next (items : List ℕ) (at row : ℕ) : Type 0 where
  pub within : row ≤ row_count items
  pub starts : row < row_count items → (elementary_at items row ≡ true) × (at ≤ (row_at items row).offset)
  pub least : (v : ℕ) → v < row_count items → elementary_at items v ≡ true → at ≤ (row_at items v).offset
      → (row < row_count items) × ((row_at items row).offset ≤ (row_at items v).offset)

-- what the mending of one row may assume: it lies in the record, and has a size that 01 allows
pub record Lying (row : Row) (content : List ℕ) : Type 0 where
  pub lies : row.offset + row.size ≤ length content
  pub near : row.offset ≤ 65535
  pub some : 1 ≤ row.size
  pub few : is_zoned row.kind ≡ true → row.size ≤ 19

-- what one row becomes, and the changes of it
abbrev pub mended_part : Row → List ℕ → List ℕ
mended_part row content = mended_item row.kind row.digits (part row content)

abbrev pub row_changes : Row → List ℕ → List ℕ
row_changes row content = changes_from row.offset (part row content) (mended_part row content)
