-- The lines of the table of refusals that calls over whole records share.
use Rattle.std.specs.Prelude.{List, [], ◌∷◌, ℕ, leb}
use Rattle.tables.specs.declared.Refusal.TheVariants.{Overlap, Room}
use Rattle.tables.specs.Rows.{row_count}
use Rattle.tables.specs.Operands.{lend}
use Rattle.tables.specs.Refusals.{unless, first_failing, Check}
use Rattle.tables.specs.Tables.{item_table_check, item_row_check, record_check}
use Rattle.items.specs.Items.{clear_at}

-- 1, 2: of a call that is lent items only
abbrev pub item_lines : List ℕ → List Check
item_lines items = item_table_check (lend items [] []) ∷ item_row_check (lend items [] []) ∷ []

-- 19: "Overlapping elementary items are refused with 19 at the first row that overlaps an earlier one"
abbrev pub overlap_check : List ℕ → Check
overlap_check items = first_failing (clear_at items) Overlap 0 (row_count items)

-- 12: "the record ends before an item does, used or not"
abbrev pub long_check : List ℕ → List ℕ → Check
long_check items content = record_check (lend items [] []) content

-- 10: "output shorter than needed", at the "numbers needed in it"
abbrev pub room_check : ℕ → ℕ → Check
room_check needed room = unless (leb needed room) (Room needed)
