-- Words of a line, and the numbers that digits spell.
use Rattle.std.specs.Prelude.{cond, ◌&&◌, List, [], ◌∷◌, ℕ, ◌+◌, ◌*◌, ◌-◌, ◌%◌, eqb, leb, length, get_or}
use Rattle.tables.specs.Words.{OPEN, CLOSE, GREATER, LESS, EQUAL, OR, GREATER-OR-EQUAL, LESS-OR-EQUAL, NOT, AND, ZERO, NUMERIC, POSITIVE, NEGATIVE}
use Rattle.tables.specs.Words.{ALPHABETIC, ALPHABETIC-LOWER, ALPHABETIC-UPPER}

-- 0 where there is none
abbrev pub first_of : List ℕ → ℕ
first_of text = get_or text 0 0

-- what stands before the next such byte
unfoldable pub before : ℕ → List ℕ → List ℕ
before byte [] = []
before byte (b ∷ text) = cond (eqb b byte) [] (b ∷ before byte text)

-- 16 for a byte that is no digit
abbrev pub digit_of : ℕ → ℕ
digit_of b = cond (leb 0x30 b && leb b 0x39) (b - 0x30) (cond (leb 0x61 b && leb b 0x66) (b - 0x61 + 10) 16)

-- one more digit, radix 10 or 16, in 32 bits; what is none is passed over
abbrev pub appended : ℕ → ℕ → ℕ → ℕ
appended radix value digit = cond (leb radix digit) value ((value * cond (eqb radix 16) 16 10 + digit) % 4294967296)

unfoldable pub digits_from : ℕ → ℕ → List ℕ → ℕ
digits_from radix value [] = value
digits_from radix value (b ∷ text) = digits_from radix (appended radix value (digit_of b)) text

-- a number that is no token
abbrev pub no_token : ℕ
no_token = 4294967295

-- "a to z are items 0 to 25, A to Z literals 0 to 25"
abbrev pub of_one : ℕ → ℕ
of_one b =
    cond (eqb b 0x28) OPEN (cond (eqb b 0x29) CLOSE (cond (eqb b 0x3E) GREATER (cond (eqb b 0x3C) LESS (cond (eqb b 0x3D) EQUAL
    (cond (leb 0x61 b && leb b 0x7A) (b - 0x61) (cond (leb 0x41 b && leb b 0x5A) (65536 + (b - 0x41)) no_token))))))

-- "s0 to s9 a switch that is on, o0 to o9 the retired word for one that is off"
abbrev pub of_two : ℕ → ℕ → ℕ
of_two first second =
    cond (eqb first 0x73) (131072 + second % 16) (cond (eqb first 0x6F) (196608 + second % 16)
    (cond (eqb first 0x4F) OR (cond (eqb first 0x3E) GREATER-OR-EQUAL (cond (eqb first 0x3C) LESS-OR-EQUAL no_token))))

-- NOT, AND, ZERO, NUMERIC, POSITIVE, NEGATIVE, ALPHABETIC: by length and first letter
abbrev pub of_more : ℕ → ℕ → ℕ
of_more size first =
    cond (eqb size 3) (cond (eqb first 0x4E) NOT AND) (cond (eqb size 4) ZERO (cond (eqb size 7) NUMERIC
    (cond (eqb size 8) (cond (eqb first 0x50) POSITIVE NEGATIVE) (cond (eqb size 10) ALPHABETIC no_token))))

-- ALPHABETIC-LOWER, ALPHABETIC-UPPER: by the letter after the hyphen
abbrev pub of_sixteen : ℕ → ℕ
of_sixteen letter = cond (eqb letter 0x4C) ALPHABETIC-LOWER ALPHABETIC-UPPER

abbrev pub of_word : List ℕ → ℕ
of_word word =
    cond (eqb (length word) 0) no_token (cond (eqb (length word) 1) (of_one (get_or word 0 0)) (cond (eqb (length word) 2) (of_two (get_or word 0 0) (get_or word 1 0))
    (cond (eqb (length word) 16) (of_sixteen (get_or word 11 0)) (of_more (length word) (get_or word 0 0)))))

-- its token; a decimal number is itself
abbrev pub token_of : List ℕ → ℕ
token_of word = cond (leb 0x30 (first_of word) && leb (first_of word) 0x39) (digits_from 10 0 word) (of_word word)
