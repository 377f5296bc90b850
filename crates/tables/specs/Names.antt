-- Document 02, h): the rows of the name table. "rows of 18 numbers: item row, a count of 1 to 8, that many pairs of literal rows (low and
-- high, ends included, alike for a single value), zeros"
use Rattle.std.specs.Prelude.{Bool, ◌&&◌, List, ℕ, ◌+◌, ◌*◌, ◌%◌, length, get_or, eqb, leb}
use Rattle.tables.specs.Rows.{name_width}

abbrev pub name_item : List ℕ → ℕ → ℕ
name_item names v = get_or names (v * name_width) 0

abbrev pub name_pairs : List ℕ → ℕ → ℕ
name_pairs names v = get_or names (v * name_width + 1) 0

-- the ends of pair k
abbrev pub name_low : List ℕ → ℕ → ℕ → ℕ
name_low names v k = get_or names (v * name_width + 2 + k * 2) 0

abbrev pub name_high : List ℕ → ℕ → ℕ → ℕ
name_high names v k = get_or names (v * name_width + 3 + k * 2) 0

-- "up to 64 rows of 18 numbers"
abbrev pub names_length_sound : List ℕ → Bool
names_length_sound names = eqb (length names % name_width) 0 && leb (length names) 1152
