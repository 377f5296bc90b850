-- Numbers that hold a byte each, as bytes.
use Rattle.std.specs.Prelude.{◌≡◌, List, ◌++◌, map, ℕ, ◌%◌, length, take, drop}

abbrev pub low_byte : ℕ → ℕ
low_byte number = number % 256

-- as many numbers as there is room for stand as bytes; what is behind them is as it was
pub record Narrows (numbers bytes : List ℕ) (r : ℕ) (after : List ℕ) : Type 0 where
  pub counted : r ≡ length (take (length bytes) numbers)
  pub stands : after ≡ map low_byte (take r numbers) ++ drop r bytes
