-- How the answer of `differ` is told to C and COBOL.
use Rattle.std.specs.Prelude.{◌≡◌, List, ℕ}
use Rattle.differences.specs.Differ.{differing}
use Rattle.answers.specs.Answer.{written_number, listed_numbers, Told}

-- what the library's call gives, told, and what it leaves in the output
pub record Differs (items first second output : List ℕ) (returned : ℕ) (answer after : List ℕ) : Type 0 where
  pub told : Told (written_number (differing items first second output).answer) (listed_numbers (differing items first second output).answer) returned answer
  pub left : after ≡ (differing items first second output).output
