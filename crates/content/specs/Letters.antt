-- Document 01, "Truth on a record": the alphabets of the class tests.
use Rattle.std.specs.Prelude.{Bool, cond, ◌&&◌, ◌||◌, ℕ, eqb, leb}
use Rattle.content.specs.Relations.{word_alphabetic, word_lower}

-- "A to Z"
abbrev pub is_upper : ℕ → Bool
is_upper b = leb 0x41 b && leb b 0x5a

-- "a to z"
abbrev pub is_lower : ℕ → Bool
is_lower b = leb 0x61 b && leb b 0x7a

abbrev pub is_space : ℕ → Bool
is_space b = eqb b 0x20

-- "ALPHABETIC: A to Z, a to z, space", "a letter or space"
abbrev pub is_alphabetic : ℕ → Bool
is_alphabetic b = is_upper b || is_lower b || is_space b

-- "UPPER and LOWER: that case and space." Words "11 ALPHABETIC, 12 ALPHABETIC-LOWER, 13 ALPHABETIC-UPPER"
abbrev pub in_alphabet : ℕ → ℕ → Bool
in_alphabet word b = cond (eqb word word_alphabetic) (is_alphabetic b) (cond (eqb word word_lower) (is_lower b || is_space b) (is_upper b || is_space b))
