-- Document 02, d): "a table of 256 marks, one for each byte value", and that it agrees with document 01's ranges.
use Rattle.std.specs.Prelude.{◌≡◌, Bool, true, cond, not, ◌&&◌, List, ℕ, zero, suc, ◌*◌, ◌/◌, ◌%◌, ◌^◌, eqb, get_or}
use Rattle.content.specs.Content.{is_digit}
use Rattle.content.specs.Letters.{is_upper, is_lower, is_space}

-- the mark of a byte, and above it those of the bytes after it: sixteen marks of four bits to a number
abbrev pub mark_in : List ℕ → ℕ → ℕ
mark_in marks b = get_or marks (b / 16) 0 / 2 ^ (b % 16 * 4)

-- the last bit of a mark
abbrev pub odd : ℕ → Bool
odd mark = eqb (mark % 2) 1

abbrev pub alike : Bool → Bool → Bool
alike a b = cond a b (not b)

-- "decide digit, upper case, lower case and space": the four bits of a mark are document 01's four ranges
abbrev pub right : ℕ → ℕ → Bool
right b mark = alike (odd mark) (is_digit b) && alike (odd (mark / 2)) (is_upper b) && alike (odd (mark / 4)) (is_lower b) && alike (odd (mark / 8)) (is_space b)

-- "That the marks agree with 01's ranges is to be shown once over the whole table."
unfoldable pub agree_below : List ℕ → ℕ → Bool
agree_below marks zero = true
agree_below marks (suc b) = right b (mark_in marks b) && agree_below marks b

abbrev pub agree : List ℕ → Bool
agree marks = agree_below marks 256

-- what a mark says of its byte
pub record Marked (b mark : ℕ) : Type 0 where
  pub digit : odd mark ≡ is_digit b
  pub upper : odd (mark / 2) ≡ is_upper b
  pub lower : odd (mark / 4) ≡ is_lower b
  pub space : odd (mark / 8) ≡ is_space b
