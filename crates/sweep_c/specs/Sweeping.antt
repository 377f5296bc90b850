-- What `sweep` gives to C and COBOL.
use Rattle.std.specs.Prelude.{◌≡◌, List, ℕ}
use Rattle.sweeps.specs.Sweep.{Sweep}
use Rattle.answers.specs.Answer.{Told}
use Rattle.record_answers.specs.Sweeping.{swept_number, swept_numbers}

-- what the library's call gives, told, and what it leaves in its output
pub record SweepsTo (sweep : Sweep) (returned : ℕ) (answer answers : List ℕ) : Type 0 where
  pub told : Told (swept_number sweep.answer) (swept_numbers sweep.answer) returned answer
  pub left : answers ≡ sweep.output
