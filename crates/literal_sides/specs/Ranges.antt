-- What the functions over condition-names need and promise: the ends of a range are literals that are fit to be read.
use Rattle.std.specs.Prelude.{◌≡◌, Bool, true, cond, ◌&&◌, List, [], ℕ, ◌+◌, ◌*◌, ◌≤◌, ◌<◌, length, eqb, ltb}
use Rattle.content.specs.WrongByte.{valid_content}
use Rattle.content.specs.declared.Row.{Row}
use Rattle.tables.specs.Rows.{row_count, is_numeric, name_width}
use Rattle.tables.specs.Operands.{lend}
use Rattle.tables.specs.Names.{name_pairs, name_low, name_high}
use Rattle.compare.specs.declared.Number.{Number}
use Rattle.compare.specs.Compared.{number_of}
use Rattle.values.specs.Names.{literal_side, pair_sound}
use Rattle.values.specs.Truth.{Fit}

-- what a field holds, read once for all its comparisons: whether its content is valid, and of a numeric one its number
pub record Held (row : Row) (bytes : List ℕ) (number : Number) : Type 0 where
  pub valid : number.valid ≡ valid_content row.kind row.digits bytes
  pub counts : is_numeric row ≡ true → number ≡ number_of row.kind row.digits bytes

-- every literal is fit to be read
pub record Literals (literals bytes : List ℕ) : Type 0 where
  pub fits : (l : ℕ) → l < row_count literals → Fit (literal_side (lend [] literals bytes) l)

-- the row of a name, and the ends of its pairs, are there
pub record Pairs (literals names : List ℕ) (v : ℕ) : Type 0 where
  pub inside : v * name_width + 17 < length names
  pub few : name_pairs names v ≤ 8
  pub low : (k : ℕ) → k < name_pairs names v → name_low names v k < row_count literals
  pub high : (k : ℕ) → k < name_pairs names v → name_high names v k < row_count literals

-- `place_sound` of an item's row
abbrev pub place_of : List ℕ → List ℕ → List ℕ → Row → ℕ → ℕ → Bool
place_of literals bytes names item v k =
    cond (ltb k (name_pairs names v))
    (pair_sound (lend [] literals bytes) item (name_low names v k) (name_high names v k))
    (eqb (name_low names v k) 0 && eqb (name_high names v k) 0)
