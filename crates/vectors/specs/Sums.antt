-- An output before a call, and its checksum after it (tests/second/README.md).
use Rattle.std.specs.Prelude.{◌≡◌, ℕ, zero, suc, ◌+◌, ◌*◌, ◌%◌, Bool, true, List, [], ◌∷◌, bit_xor}

-- "Number i holds 3,000,000,000 + i", in 32 bits
unfoldable pub counted_from : ℕ → ℕ → List ℕ
counted_from next zero = []
counted_from next (suc left) = next ∷ counted_from ((next + 1) % 4294967296) left

abbrev pub filled : ℕ → List ℕ
filled size = counted_from 3000000000 size

abbrev pub summed : ℕ → ℕ → ℕ
summed sum number = bit_xor sum number * 16777619 % 4294967296

unfoldable pub sum_from : ℕ → List ℕ → ℕ
sum_from sum [] = sum
sum_from sum (number ∷ numbers) = sum_from (summed sum number) numbers

abbrev pub checksum_of : List ℕ → ℕ
checksum_of output = sum_from 2166136261 output

-- Whether two lists of numbers are the same.
pub record SameNumbers (one other : List ℕ) (r : Bool) : Type 0 where
  pub told : r ≡ true → one ≡ other
  pub same : one ≡ other → r ≡ true
