-- Lines that tell of a refusal.
use Rattle.std.specs.Prelude.{Bool, cond, ◌&&◌, ◌||◌, List, [], ◌∷◌, ◌++◌, ℕ, eqb, leb}
use Rattle.description.specs.Grammar.{bytes}
use Rattle.lines.specs.Put.{Puts, Decimal, hexadecimal}
use Rattle.wordings.specs.Sentences.{sentence}

-- "a sentence a member understands, with its number": a word, the number, the sentence, a line feed
pub record PutsRefusal (out : List ℕ) (at : ℕ) (word : List ℕ) (number end : ℕ) (after : List ℕ) : Type 0 where
  pub digits : List ℕ
  pub decimal : Decimal number digits
  pub puts : Puts out at (word ++ digits ++ bytes ", " ++ sentence number ++ 0x0A ∷ []) end after

-- "for texts the line and column"
pub record PutsSpot (out : List ℕ) (at line column end : ℕ) (after : List ℕ) : Type 0 where
  pub line_digits : List ℕ
  pub column_digits : List ℕ
  pub line_decimal : Decimal line line_digits
  pub column_decimal : Decimal column column_digits
  pub puts : Puts out at (bytes ", line " ++ line_digits ++ bytes ", column " ++ column_digits ++ 0x3A ∷ 0x0A ∷ []) end after

-- "the line and column, that line, and a caret under the byte": a byte that is no character one sees is told as well; the end of a line is not
abbrev pub is_seen : ℕ → Bool
is_seen byte = leb 0x20 byte && leb byte 0x7E || eqb byte 0x0A

abbrev pub unseen : ℕ → List ℕ
unseen byte = cond (is_seen byte) [] (bytes "there stands hex " ++ hexadecimal byte ++ 0x0A ∷ [])
