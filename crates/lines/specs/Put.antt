-- A text put into a lent buffer, and a number as text.
use Rattle.std.specs.Prelude.{◌≡◌, List, [], ◌∷◌, ◌++◌, ℕ, zero, suc, ◌+◌, ◌-◌, ◌/◌, ◌%◌, length, take, drop, replicate}
use Rattle.io.specs.Digits.{last_digits, IsDigitCount, hex_digit_ascii}

-- as much of a text as there is room for from a place on
abbrev pub fitting : List ℕ → ℕ → List ℕ → List ℕ
fitting out at text = take (length out - at) text

-- The text stands from the place on, as far as there is room; all else is as it was. The next text goes to `end`.
pub record Puts (out : List ℕ) (at : ℕ) (text : List ℕ) (end : ℕ) (after : List ℕ) : Type 0 where
  pub ends : end ≡ at + length (fitting out at text)
  pub stands : after ≡ take at out ++ fitting out at text ++ drop end out

-- a number's decimal digits, no zero in front but for 0 itself
pub record Decimal (number : ℕ) (text : List ℕ) : Type 0 where
  pub few : IsDigitCount 10 1 number (length text)
  pub spelled : text ≡ last_digits 10 (length text) number

-- a number stands as its decimal digits
pub record PutsNumber (out : List ℕ) (at number end : ℕ) (after : List ℕ) : Type 0 where
  pub text : List ℕ
  pub decimal : Decimal number text
  pub puts : Puts out at text end after

-- and spaces after them up to a width
pub record PutsNumberColumn (out : List ℕ) (at number width end : ℕ) (after : List ℕ) : Type 0 where
  pub text : List ℕ
  pub decimal : Decimal number text
  pub puts : Puts out at (text ++ replicate (width - length text) 0x20) end after

-- a byte as two hexadecimal digits
abbrev pub hexadecimal : ℕ → List ℕ
hexadecimal byte = hex_digit_ascii (byte / 16) ∷ hex_digit_ascii (byte % 16) ∷ []
