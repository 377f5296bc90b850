-- How the answer of `sweep` is told to C and COBOL.
use Rattle.std.specs.Prelude.{List, [], ◌∷◌, ℕ, Result, Ok, Err}
use Rattle.tables.specs.Refusals.{number, place}
use Rattle.sweeps.specs.declared.Unswept.{Unswept}
use Rattle.sweeps.specs.declared.Unswept.TheVariants.{Uneven, Refused}
use Rattle.answers.specs.Answer.{narrowed}

-- 21: records of this size do not fill the file
abbrev pub swept_number : Result ℕ Unswept → ℕ
swept_number (Ok numbers) = 0
swept_number (Err Uneven) = 21
swept_number (Err (Refused refusal)) = number refusal

-- the place of a refusal, or the count of numbers written
abbrev pub swept_numbers : Result ℕ Unswept → List ℕ
swept_numbers (Ok numbers) = 0 ∷ 0 ∷ 0 ∷ narrowed numbers ∷ 0 ∷ 0 ∷ 0 ∷ 0 ∷ 0 ∷ []
swept_numbers (Err Uneven) = 0 ∷ 0 ∷ 0 ∷ 0 ∷ 0 ∷ 0 ∷ 0 ∷ 0 ∷ 0 ∷ []
swept_numbers (Err (Refused refusal)) = narrowed (place refusal) ∷ 0 ∷ 0 ∷ 0 ∷ 0 ∷ 0 ∷ 0 ∷ 0 ∷ 0 ∷ []
