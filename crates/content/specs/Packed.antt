-- Document 02, f), "Packed amounts": the bytes of a packed field.
use Rattle.std.specs.Prelude.{Bool, not, ◌&&◌, ◌||◌, List, [], ◌∷◌, ℕ, ◌+◌, ◌*◌, ◌/◌, ◌%◌, eqb, leb}
use Rattle.content.specs.Kinds.{kind_packed, kind_packed_unsigned}

-- "Kind 8 is signed packed, kind 9 unsigned"
abbrev pub is_packed : ℕ → Bool
is_packed kind = eqb kind kind_packed || eqb kind kind_packed_unsigned

-- the two half-bytes of a byte
abbrev pub left_half : ℕ → ℕ
left_half b = b / 16 % 16

abbrev pub right_half : ℕ → ℕ
right_half b = b % 16

-- "Digits fill half-bytes"
abbrev pub two_digits : ℕ → Bool
two_digits b = leb (left_half b) 9 && leb (right_half b) 9

-- "the last half is 3 for plus or 4 for minus, kind 9 only 3"; before it stands a digit
abbrev pub digit_and_sign : ℕ → ℕ → Bool
digit_and_sign kind b = leb (left_half b) 9 && (eqb (right_half b) 3 || eqb (right_half b) 4 && eqb kind kind_packed)

-- "a zero half leads where their count is even"
abbrev pub leads : ℕ → ℕ → Bool
leads digits b = not (eqb (digits % 2) 0) || eqb (left_half b) 0

-- a byte of a packed field, the first or not and the last or not
abbrev pub packed_right : ℕ → ℕ → Bool → Bool → ℕ → Bool
packed_right kind digits first last b =
    (not last || digit_and_sign kind b) && (last || two_digits b) && (not first || leads digits b)

-- the number that pairs of digits write after the number n
unfoldable pub packed_from : ℕ → List ℕ → ℕ
packed_from n [] = n
packed_from n (b ∷ bytes) = packed_from (n * 100 + left_half b * 10 + right_half b) bytes
