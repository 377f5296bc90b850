-- What words mean, as code gives it.
use Rattle.std.specs.Prelude.{◌≡◌, Result, Ok, Err, List, [], ℕ, ◌≤◌, ltb, leb, length, get_or, drop}
use Rattle.content.specs.declared.Row.{Row}
use Rattle.spelling.specs.Literals.{row_of_literal}
use Rattle.spelling.specs.Keywords.{Piece as Spelt, token, literal, fault, Meaning, alone, item, value, order, equal, faulty, keyword, vocabulary}
use Rattle.spelling.specs.Meanings.{or_equal, joins, piece_of}
use Rattle.splitter.specs.Splits.{words_at, Past}
use Rattle.senses.specs.declared.Sense.{Sense}
use Rattle.senses.specs.declared.Sense.TheVariants.{Token, Item, Literal, Order, Equal}
use Rattle.senses.specs.declared.Met.{Met}
use Rattle.senses.specs.declared.Met.TheVariants.{Token as MetToken, Literal as MetLiteral}
use Rattle.senses.specs.declared.Piece.{Piece}
use Rattle.content.specs.Kinds.{kind_alphanumeric}

-- a nonnumeric literal's row of so many bytes
abbrev pub text_row : ℕ → Row
text_row size = record { kind = kind_alphanumeric; offset = 0; size = size; scale = 0; digits = 0 }

-- a literal stands as its row at offset 0
abbrev pub sense_of : Meaning → Result Sense ℕ
sense_of (alone t) = Ok (Token t)
sense_of (item t) = Ok (Item t)
sense_of (value l) = Ok (Literal (row_of_literal 0 l))
sense_of (order plain joined) = Ok (Order plain joined)
sense_of equal = Ok Equal
sense_of (faulty number) = Err number

abbrev pub met_of : Spelt → Result Met ℕ
met_of (token t) = Ok (MetToken t)
met_of (literal l) = Ok (MetLiteral (row_of_literal 0 l))
met_of (fault number) = Err number

-- what word k of the vocabulary means; past its end, nothing
abbrev pub meaning_at : ℕ → Meaning
meaning_at k = (get_or vocabulary k (keyword [] (faulty 15))).meaning

-- `past` is after OR EQUAL, with or without TO, if these are the next words; else it is `from`
pub record PastOrEqual (text : List ℕ) (from past : ℕ) : Type 0 where
  pub within : past ≤ length text
  pub passed : from ≤ past
  pub told : ltb from past ≡ leb 1 (or_equal (words_at text from))
  pub words : words_at text past ≡ drop (or_equal (words_at text from)) (words_at text from)

-- a word that another may follow, with what it adds
pub record PieceAfter (word : List ℕ) (met : Met) (text : List ℕ) (end : ℕ) (r : Piece) : Type 0 where
  pub same : r.met ≡ Ok met
  pub past : Past word text end r.past

-- what a word of this meaning, which ends at `end`, and the words that join it add; and the place after them
pub record PieceBy (m : Meaning) (text : List ℕ) (end : ℕ) (r : Piece) : Type 0 where
  pub met : r.met ≡ met_of (piece_of m (words_at text end))
  pub within : r.past ≤ length text
  pub passed : end ≤ r.past
  pub words : words_at text r.past ≡ drop (joins m (words_at text end)) (words_at text end)
