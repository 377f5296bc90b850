-- How the answer of `mend` is told to C and COBOL.
use Rattle.std.specs.Prelude.{◌≡◌, List, ℕ}
use Rattle.mending.specs.Mend.{mending}
use Rattle.answers.specs.Answer.{written_number, listed_numbers, Told}

-- what the library's call gives, told, and what it leaves in the record and the list
pub record Mends (items content list : List ℕ) (returned : ℕ) (answer content_after list_after : List ℕ) : Type 0 where
  pub told : Told (written_number (mending items content list).answer) (listed_numbers (mending items content list).answer) returned answer
  pub kept : content_after ≡ (mending items content list).content
  pub listed : list_after ≡ (mending items content list).list
