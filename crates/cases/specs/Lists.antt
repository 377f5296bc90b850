-- The lists of a setting: "A word is a number or a word of a condition, and in bytes and records two hexadecimal digits; [ .. ] x3 is what stands
-- between the brackets, three times. Bytes may also stand as "text"."
use Rattle.std.specs.Prelude.{Bool, cond, ◌&&◌, List, [], ◌∷◌, ℕ, eqb, ltb, length, drop, get_or, set}
use Rattle.cases.specs.Stores.{number_at, pushed, kept_as, repeated_in}
use Rattle.cases.specs.Words.{first_of, before, digits_from, token_of}

-- 4,096 are the bytes, 10,240 is the record
abbrev pub number_of : ℕ → List ℕ → ℕ
number_of part word = cond (eqb part 4096) (digits_from 16 0 word) (cond (eqb part 10240) (digits_from 16 0 word) (token_of word))

-- x and digits; x alone is an item
abbrev pub is_repeat : List ℕ → Bool
is_repeat word = ltb 1 (length word) && eqb (get_or word 0 0) 0x78

-- an opening bracket sets the mark; a closing one, and nothing between two spaces, adds nothing
abbrev pub added : List ℕ → ℕ → List ℕ → List ℕ
added store part word =
    cond (is_repeat word) (repeated_in store part (digits_from 10 0 word))
    (cond (eqb (first_of word) 0x5B) (set store 16384 (number_at store part))
    (cond (eqb (first_of word) 0x5D) store (cond (eqb (first_of word) 0) store (pushed store part (number_of part word)))))

-- what stands between spaces
abbrev pub with_first : ℕ → List (List ℕ) → List (List ℕ)
with_first b [] = (b ∷ []) ∷ []
with_first b (word ∷ words) = (b ∷ word) ∷ words

unfoldable pub spaced : List ℕ → List (List ℕ)
spaced [] = []
spaced (b ∷ text) = cond (eqb b 0x20) ([] ∷ spaced text) (with_first b (spaced text))

unfoldable pub added_all : List ℕ → ℕ → List (List ℕ) → List ℕ
added_all store part [] = store
added_all store part (word ∷ words) = added_all (added store part word) part words

abbrev pub set_to : List ℕ → ℕ → List ℕ → List ℕ
set_to store part text =
    cond (eqb (first_of text) 0x22) (kept_as store part (before 0x22 (drop 1 text))) (added_all (set store part 0) part (spaced text))
