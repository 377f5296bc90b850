-- A field of up to 8 bytes as one word: a number in base 256 of which the field's last byte is the lowest.
use Rattle.std.specs.Prelude.{Bool, true, ◌&&◌, List, [], ◌∷◌, map, ℕ, zero, suc, ◌+◌, ◌*◌, ◌/◌, ◌%◌, leb}
use Rattle.std.specs.Int.Bits.{bit_xor}

-- the number that bytes write in base 256 after the number n
unfoldable pub word_from : ℕ → List ℕ → ℕ
word_from n [] = n
word_from n (b ∷ bytes) = word_from (n * 256 + b) bytes

-- A byte with the bits of hex 30 turned over: of hex 30 to 39 the digit, of any other byte a number above 9.
abbrev pub digit_of : ℕ → ℕ
digit_of b = bit_xor b 0x30

-- the word of a field: a byte for each digit
abbrev pub digit_word : List ℕ → ℕ
digit_word bytes = word_from 0 (map digit_of bytes)

-- each of a word's k lowest bytes is a digit
unfoldable pub digits_in : ℕ → ℕ → Bool
digits_in zero word = true
digits_in (suc k) word = leb (word % 256) 9 && digits_in k (word / 256)

-- the number that the right halves of a word's k lowest bytes write
unfoldable pub value_in : ℕ → ℕ → ℕ
value_in zero word = 0
value_in (suc k) word = value_in k (word / 256) * 10 + word % 16
