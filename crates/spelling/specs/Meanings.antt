-- Document 02, e): what a word means, and which words join it.
use Rattle.std.specs.Prelude.{Bool, true, false, cond, not, ◌&&◌, ◌||◌, List, [], ◌∷◌, ℕ, zero, suc, ◌+◌, ◌-◌, length, drop, eqb, leb, ltb}
use Rattle.description.specs.Grammar.{Word, bytes, same}
use Rattle.description.specs.Reader.{is_name}
use Rattle.spelling.specs.Names.{Known, every_name}
use Rattle.spelling.specs.Literals.{text_of, is_text, number_of, is_number}
use Rattle.spelling.specs.Keywords.{Piece, token, literal, fault, Meaning, alone, item, value, order, equal, faulty, Keyword, vocabulary}
use Rattle.tables.specs.Words.{EQUAL, name_token}

-- how many rows have the name, and the first that has it
unfoldable pub count : List ℕ → List (List ℕ) → ℕ
count word [] = 0
count word (name ∷ names) = cond (same word name) (suc (count word names)) (count word names)

unfoldable pub position : List ℕ → List (List ℕ) → ℕ
position word [] = 0
position word (name ∷ names) = cond (same word name) 0 (suc (position word names))

-- The name with number p, of which the first `items` are items': an item, or a condition-name. This is a simple condition and no
-- operand, so that IS may not follow.
abbrev pub called : ℕ → ℕ → Meaning
called items p = cond (ltb p items) (item p) (alone (name_token (p - items)))

-- "an unknown or doubled name with 16"; "A faulty word .. with 15": a name is one of a), so no keyword
abbrev pub named : Known → List ℕ → Meaning
named known word =
    cond (is_name word)
    (cond (eqb (count word (every_name known)) 1) (called (length known.items) (position word (every_name known))) (faulty 16))
    (faulty 15)

-- what a word of the vocabulary means, or `else` of any other word
unfoldable pub lookup : List ℕ → Meaning → List Keyword → Meaning
lookup word else [] = else
lookup word else (k ∷ ks) = cond (same word k.bytes) k.meaning (lookup word else ks)

-- a literal, a word of the vocabulary, or a name
unfoldable pub meaning : Known → List ℕ → Meaning
meaning known word =
    cond (is_text word) (value (text_of word))
    (cond (is_number word) (value (number_of word))
    (lookup word (named known word) vocabulary))

-- the next word is this one; one word if it is
unfoldable pub next : List ℕ → List Word → Bool
next word [] = false
next word (w ∷ ws) = same w.text word

abbrev pub taken : List ℕ → List Word → ℕ
taken word ws = cond (next word ws) 1 0

-- OR EQUAL, with or without TO
abbrev pub or_equal : List Word → ℕ
or_equal ws = cond (next (bytes "OR") ws && next (bytes "EQUAL") (drop 1 ws)) (2 + taken (bytes "TO") (drop 2 ws)) 0

-- what comes after GREATER or LESS, with or without THAN
abbrev pub after_than : List Word → List Word
after_than ws = drop (taken (bytes "THAN") ws) ws

-- how many of the next words join a word of this meaning: "IS may follow an operand, THAN follow GREATER or LESS, TO follow EQUAL;
-- GREATER or LESS, OR, EQUAL with or without THAN and TO is one relation"
abbrev pub joins : Meaning → List Word → ℕ
joins (alone t) ws = 0
joins (item t) ws = taken (bytes "IS") ws
joins (value l) ws = taken (bytes "IS") ws
joins (order plain joined) ws = taken (bytes "THAN") ws + or_equal (after_than ws)
joins equal ws = taken (bytes "TO") ws
joins (faulty number) ws = 0

-- and what they are together
abbrev pub piece_of : Meaning → List Word → Piece
piece_of (alone t) ws = token t
piece_of (item t) ws = token t
piece_of (value l) ws = literal l
piece_of (order plain joined) ws = token (cond (leb 1 (or_equal (after_than ws))) joined plain)
piece_of equal ws = token EQUAL
piece_of (faulty number) ws = fault number
