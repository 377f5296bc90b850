-- How the answer of `merge` is told to C and COBOL.
use Rattle.std.specs.Prelude.{List, [], ◌∷◌, ℕ, Result, Ok, Err}
use Rattle.tables.specs.declared.Refusal.{Refusal}
use Rattle.tables.specs.Refusals.{number, place}
use Rattle.merging.specs.declared.Merged.{Merged}
use Rattle.answers.specs.Answer.{narrowed}

abbrev pub merged_number : Result Merged Refusal → ℕ
merged_number (Ok merged) = 0
merged_number (Err refusal) = number refusal

-- the place of a refusal, or the counts of bytes and of contested rows written
abbrev pub merged_numbers : Result Merged Refusal → List ℕ
merged_numbers (Ok merged) = 0 ∷ 0 ∷ 0 ∷ narrowed merged.bytes ∷ narrowed merged.rows ∷ 0 ∷ 0 ∷ 0 ∷ 0 ∷ []
merged_numbers (Err refusal) = narrowed (place refusal) ∷ 0 ∷ 0 ∷ 0 ∷ 0 ∷ 0 ∷ 0 ∷ 0 ∷ 0 ∷ []
