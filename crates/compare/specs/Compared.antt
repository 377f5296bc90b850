-- Document 01, "Truth on a record": how two numbers and how two rows of bytes compare.
use Rattle.std.specs.Prelude.{false, List, [], ◌∷◌, ◌++◌, ℕ, ◌-◌, ◌^◌, max, length, replicate, ℤ, pos, ◌*ℤ◌}
use Rattle.content.specs.Content.{all, is_minus, magnitude}
use Rattle.content.specs.Packed.{two_digits, packed_from}
use Rattle.content.specs.WrongByte.{valid_content}
use Rattle.compare.specs.declared.Number.{Number}
use Rattle.std.specs.declared.cmp.Ordering.{Ordering}
use Rattle.std.specs.declared.cmp.Ordering.TheVariants.{Less, Equal, Greater}
use Rattle.compare.specs.Order.{order, orderℤ}

-- "Valid content" and "digit values D1, D2 (signed)": whether a numeric field is valid, its sign and its digits
abbrev pub number_of : ℕ → ℕ → List ℕ → Number
number_of kind digits bytes = record { valid = valid_content kind digits bytes; minus = is_minus kind bytes; digits = magnitude kind bytes }

-- the same of the bytes of a packed field that hold two digits each
abbrev pub pairs_of : List ℕ → Number
pairs_of bytes = record { valid = all two_digits bytes; minus = false; digits = packed_from 0 bytes }

-- "Two numeric sides: with digit values D1, D2 (signed) and scales s1, s2, compare D1 × 10^s2 with D2 × 10^s1 as whole numbers."
abbrev pub scaled_order : ℤ → ℕ → ℤ → ℕ → Ordering
scaled_order d1 s1 d2 s2 = orderℤ (d1 *ℤ pos (10 ^ s2)) (d2 *ℤ pos (10 ^ s1))

-- "compare bytes from the left as unsigned numbers": the first pair that differs decides
abbrev pub then_order : Ordering → Ordering → Ordering
then_order Less rest = Less
then_order Equal rest = rest
then_order Greater rest = Greater

unfoldable pub byte_order : List ℕ → List ℕ → Ordering
byte_order [] [] = Equal
byte_order [] (y ∷ ys) = Less
byte_order (x ∷ xs) [] = Greater
byte_order (x ∷ xs) (y ∷ ys) = then_order (order x y) (byte_order xs ys)

-- "the shorter side filled on the right with hex 20"
abbrev pub filled : ℕ → List ℕ → List ℕ
filled n bytes = bytes ++ replicate (n - length bytes) 0x20

abbrev pub character_order : List ℕ → List ℕ → Ordering
character_order xs ys = byte_order (filled (max (length xs) (length ys)) xs) (filled (max (length xs) (length ys)) ys)
