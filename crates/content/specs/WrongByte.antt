-- Document 01, "Valid content", and document 02, c), g), "the item's first wrong byte": one rule for each byte by its position.
use Rattle.std.specs.Prelude.{Bool, true, false, cond, ◌&&◌, ◌||◌, List, [], ◌∷◌, ℕ, suc, ◌+◌, length, eqb}
use Rattle.content.specs.Kinds.{kind_alphabetic, kind_signed, kind_sign_leading, kind_sign_trailing, is_zoned}
use Rattle.content.specs.Content.{is_digit, is_sign, is_signed_digit}
use Rattle.content.specs.Letters.{is_alphabetic}
use Rattle.content.specs.Packed.{is_packed, packed_right}

-- "kind 3, every byte hex 30 to 39. Kind 4, all but the last byte so; the last has [a sign and a digit]. Kinds 5, 6: one + or −, else
-- digits". The sign of kind 5 leads, that of kind 6 trails. Document 02, g): in kind 1 no "byte other than a letter or space"; f): the halves of
-- packed fields. Other kinds hold any bytes. A byte is the first of its field or not, and the last or not.
abbrev pub right_byte : ℕ → ℕ → Bool → Bool → ℕ → Bool
right_byte kind digits first last b =
    cond (eqb kind kind_alphabetic) (is_alphabetic b)
    (cond (eqb kind kind_signed && last) (is_signed_digit b)
    (cond (eqb kind kind_sign_leading && first || eqb kind kind_sign_trailing && last) (is_sign b)
    (cond (is_zoned kind) (is_digit b)
    (cond (is_packed kind) (packed_right kind digits first last b) true))))

-- byte i of a field of n bytes
abbrev pub right_at : ℕ → ℕ → ℕ → ℕ → ℕ → Bool
right_at kind digits n i b = right_byte kind digits (eqb i 0) (eqb (i + 1) n) b

-- where a field's first wrong byte stands, counted from its start
pub data Wrong : Type 0 where
  Nowhere : Wrong
  At : ℕ → Wrong

abbrev pub nowhere : Wrong → Bool
nowhere Nowhere = true
nowhere (At i) = false

-- the first byte that fails the test of its place, of those that stand from `at` on
unfoldable pub first_from : (ℕ → ℕ → Bool) → ℕ → List ℕ → Wrong
first_from right at [] = Nowhere
first_from right at (b ∷ bytes) = cond (right at b) (first_from right (suc at) bytes) (At at)

-- of a field of this kind with so many digits
abbrev pub first_wrong : ℕ → ℕ → List ℕ → Wrong
first_wrong kind digits bytes = first_from (right_at kind digits (length bytes)) 0 bytes

-- "Valid content": no byte is wrong
unfoldable pub valid_content : ℕ → ℕ → List ℕ → Bool
valid_content kind digits bytes = nowhere (first_wrong kind digits bytes)
