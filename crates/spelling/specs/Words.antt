-- Document 02, e): how a condition text falls into words.
use Rattle.std.specs.Prelude.{Bool, true, false, cond, not, ◌&&◌, ◌||◌, List, [], ◌∷◌, ℕ, zero, suc, ◌-◌, get_or, take, eqb}
use Rattle.description.specs.Grammar.{Word, is_blank}

-- ( )
abbrev pub is_bracket : ℕ → Bool
is_bracket b = eqb b 0x28 || eqb b 0x29

-- > <
abbrev pub is_order : ℕ → Bool
is_order b = eqb b 0x3e || eqb b 0x3c

-- =
abbrev pub is_equals : ℕ → Bool
is_equals b = eqb b 0x3d

-- "
abbrev pub is_quote : ℕ → Bool
is_quote b = eqb b 0x22

-- "A word runs to the next space, line feed, bracket or symbol outside quotes."
abbrev pub ends_word : ℕ → Bool
ends_word b = is_blank b || is_bracket b || is_order b || is_equals b

-- How many of these bytes go on a word that stands inside quotes (true) or outside. A quote opens, and the next one closes: so a
-- doubled one stays inside.
unfoldable pub runs : Bool → List ℕ → ℕ
runs quoted [] = 0
runs true (b ∷ bytes) = suc (runs (not (is_quote b)) bytes)
runs false (b ∷ bytes) = cond (ends_word b) 0 (suc (runs (is_quote b) bytes))

-- How many bytes the word has that begins with the first of these bytes, which is no blank. Brackets and the symbols > < = >= <=
-- are words of their own, the longest symbol first.
unfoldable pub word_length : List ℕ → ℕ
word_length bytes =
    cond (is_bracket (get_or bytes 0 0) || is_equals (get_or bytes 0 0)) 1
    (cond (is_order (get_or bytes 0 0)) (cond (is_equals (get_or bytes 1 0)) 2 1) (runs false bytes))

-- The words of a text of which `at` bytes are passed; the next `skip` belong to the word before.
unfoldable pub words_from : ℕ → ℕ → List ℕ → List Word
words_from skip at [] = []
words_from (suc skip) at (b ∷ bytes) = words_from skip (suc at) bytes
words_from zero at (b ∷ bytes) =
    cond (is_blank b) (words_from 0 (suc at) bytes)
    (record { place = at; text = take (word_length (b ∷ bytes)) (b ∷ bytes) } ∷ words_from (word_length (b ∷ bytes) - 1) (suc at) bytes)

abbrev pub words : List ℕ → List Word
words text = words_from 0 0 text
