-- Document 02, e): the words of conditions.
use Rattle.std.specs.Prelude.{List, [], ◌∷◌, ℕ, ◌+◌}
use Rattle.description.specs.Grammar.{bytes}
use Rattle.spelling.specs.Literals.{Literal}
use Rattle.tables.specs.Words.{GREATER, LESS, GREATER-OR-EQUAL, LESS-OR-EQUAL, word_token, switch_token}

-- What a word adds to what is read: a token, a literal, or a refusal's number.
pub data Piece : Type 0 where
  token : ℕ → Piece
  literal : Literal → Piece
  fault : ℕ → Piece

-- What a word means: a token that nothing joins; an operand, which IS may follow: an item's token, or a literal; GREATER or LESS, which THAN
-- may follow, and OR EQUAL with or without TO, and which then are the second token; EQUAL, which TO may follow; or a refusal's number.
pub data Meaning : Type 0 where
  alone : ℕ → Meaning
  item : ℕ → Meaning
  value : Literal → Meaning
  order : ℕ → ℕ → Meaning
  equal : Meaning
  faulty : ℕ → Meaning

-- UPSI-0 to UPSI-7
abbrev pub UPSI : ℕ → List ℕ
UPSI v = 0x55 ∷ 0x50 ∷ 0x53 ∷ 0x49 ∷ 0x2d ∷ (0x30 + v) ∷ []

-- document 01's words by their numbers; "relations as symbols"
abbrev pub spellings : List (List ℕ)
spellings =
    bytes "(" ∷ bytes ")" ∷ bytes "NOT" ∷ bytes "AND" ∷ bytes "OR" ∷ bytes ">" ∷ bytes "<" ∷ bytes "=" ∷ bytes ">=" ∷ bytes "<="
    ∷ bytes "NUMERIC" ∷ bytes "ALPHABETIC" ∷ bytes "ALPHABETIC-LOWER" ∷ bytes "ALPHABETIC-UPPER" ∷ bytes "POSITIVE" ∷ bytes "NEGATIVE"
    ∷ bytes "ZERO" ∷ []

pub record Keyword : Type 0 where
  pub bytes : List ℕ
  pub meaning : Meaning

abbrev pub keyword : List ℕ → Meaning → Keyword
keyword bytes meaning = record { bytes = bytes; meaning = meaning }

-- the word with number v of document 01, and "UPSI-0 to UPSI-7 mean that switch on"
abbrev pub word : List ℕ → ℕ → Keyword
word bytes v = keyword bytes (alone (word_token v))

abbrev pub switch : ℕ → Keyword
switch v = keyword (UPSI v) (alone (switch_token v))

-- The words that mean something by themselves. Keywords of a) that are not among them (IS, FILLER, PIC and so on) are faulty words, where no
-- other word takes them.
abbrev pub vocabulary : List Keyword
vocabulary =
    word (bytes "(") 0
    ∷ word (bytes ")") 1
    ∷ word (bytes "NOT") 2
    ∷ word (bytes "AND") 3
    ∷ word (bytes "OR") 4
    ∷ word (bytes ">") 5
    ∷ word (bytes "<") 6
    ∷ word (bytes "=") 7
    ∷ word (bytes ">=") 8
    ∷ word (bytes "<=") 9
    ∷ word (bytes "NUMERIC") 10
    ∷ word (bytes "ALPHABETIC") 11
    ∷ word (bytes "ALPHABETIC-LOWER") 12
    ∷ word (bytes "ALPHABETIC-UPPER") 13
    ∷ word (bytes "POSITIVE") 14
    ∷ word (bytes "NEGATIVE") 15
    ∷ word (bytes "ZERO") 16
    ∷ switch 0
    ∷ switch 1
    ∷ switch 2
    ∷ switch 3
    ∷ switch 4
    ∷ switch 5
    ∷ switch 6
    ∷ switch 7
    ∷ keyword (bytes "GREATER") (order GREATER GREATER-OR-EQUAL)
    ∷ keyword (bytes "LESS") (order LESS LESS-OR-EQUAL)
    ∷ keyword (bytes "EQUAL") equal
    ∷ []
