-- A literal as its word writes it: its row, and what that row says of the word.
use Rattle.std.specs.Prelude.{◌≡◌, Bool, true, not, cond, List, [], ℕ, None, Option, Some}
use Rattle.std.proofs.Math.Option.{get_or}
use Rattle.content.specs.declared.Row.{Row}
use Rattle.tables.specs.Rows.{row_sound, is_numeric}
use Rattle.description.specs.Grammar.{Literal, literal, literal_row}
use Rattle.description.specs.Reader.{read_literal}
use Rattle.description.specs.Stages.{is_literal}
use Rattle.description.specs.Limits.{ruled, unfit}
use Rattle.content.specs.Kinds.{kind_alphanumeric}

-- the literal that a word is
abbrev pub literal_of : List ℕ → Literal
literal_of word = get_or (read_literal word) (literal 0 [] 0)

-- its row, within 01's limits
abbrev pub row_found : Literal → Option Row
row_found x = cond (unfit x) None (Some (ruled (literal_row 0 x)))

abbrev pub held_row : ℕ → Row
held_row n = record { kind = kind_alphanumeric; offset = 0; size = n; scale = 0; digits = 0 }

-- the word is a literal within 01's limits, and this is its row
pub record Written (word : List ℕ) (r : Row) : Type 0 where
  pub whole : is_literal word ≡ true
  pub row : r ≡ ruled (literal_row 0 (literal_of word))
  pub sound : row_sound r ≡ true

-- "has one numeric end only"
abbrev pub unlike_rows : Row → Row → Bool
unlike_rows low high = cond (is_numeric low) (not (is_numeric high)) (is_numeric high)
