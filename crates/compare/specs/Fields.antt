-- What the code needs to know of a field before it reads a number there.
use Rattle.std.specs.Prelude.{◌≡◌, true, false, List, ℕ, ◌≤◌, length}
use Rattle.content.specs.Content.{digit_bytes}
use Rattle.content.specs.Packed.{is_packed}

-- a field of a numeric kind that has one digit at least, and at most 18
pub record NumberField (kind : ℕ) (bytes : List ℕ) : Type 0 where
  pub some : 1 ≤ length bytes
  pub packed : is_packed kind ≡ true → length bytes ≤ 10
  pub display : is_packed kind ≡ false → (3 ≤ kind) × (kind ≤ 6)
  pub digits : length (digit_bytes kind bytes) ≤ 18
