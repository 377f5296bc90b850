-- What `describe` gives to C and COBOL.
use Rattle.std.specs.Prelude.{List, ℕ}
use Rattle.describing.specs.declared.Described.{Described}
use Rattle.describing.specs.Calls.{number, DescribedBy}
use Rattle.answers.specs.Answer.{Told}
use Rattle.description_answers.specs.Description.{described_numbers}

-- what the library's call gives, told
pub record Describes (text rows places names name_places literals bytes : List ℕ) (returned : ℕ)
    (answer rows_after places_after names_after name_places_after literals_after bytes_after : List ℕ) : Type 0 where
  pub given : Described
  pub described : DescribedBy text rows places names name_places literals bytes given rows_after places_after names_after name_places_after literals_after bytes_after
  pub told : Told (number given) (described_numbers given) returned answer
