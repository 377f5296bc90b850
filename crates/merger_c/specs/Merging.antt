-- What `merge` gives to C and COBOL.
use Rattle.std.specs.Prelude.{◌≡◌, List, ℕ}
use Rattle.merging.specs.Merge.{Merging}
use Rattle.answers.specs.Answer.{Told}
use Rattle.record_answers.specs.Merging.{merged_number, merged_numbers}

-- what the library's call gives, told, and what it leaves in both outputs
pub record MergesTo (merging : Merging) (returned : ℕ) (answer merged contested : List ℕ) : Type 0 where
  pub told : Told (merged_number merging.answer) (merged_numbers merging.answer) returned answer
  pub record_is : merged ≡ merging.content
  pub contested_are : contested ≡ merging.rows
