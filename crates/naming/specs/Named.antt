-- What has a name, as code gives it.
use Rattle.std.specs.Prelude.{cond, Option, Some, None, List, ℕ, ◌-◌, ◌≤◌, eqb, ltb, length, take, drop}
use Rattle.spelling.specs.Names.{names_at, Known, known_by, every_name}
use Rattle.spelling.specs.Meanings.{count, position}
use Rattle.naming.specs.declared.Called.{Called}
use Rattle.naming.specs.declared.Called.TheVariants.{Item, Condition}

-- the names at the first `items` of these places are items', those at the others conditions'
abbrev pub known_at : List ℕ → ℕ → List ℕ → Known
known_at description items places = known_by (names_at description (take items places)) (names_at description (drop items places))

-- what callers show of them
pub record Listed (items : ℕ) (places : List ℕ) : Type 0 where
  pub few : length places ≤ 128
  pub within : items ≤ length places

-- the name with number p, of which the first `items` are items'
abbrev pub row_by : ℕ → ℕ → Called
row_by items p = cond (ltb p items) (Item p) (Condition (p - items))

abbrev pub called_by : List ℕ → Known → Option Called
called_by word known = cond (eqb (count word (every_name known)) 1) (Some (row_by (length known.items) (position word (every_name known)))) None
