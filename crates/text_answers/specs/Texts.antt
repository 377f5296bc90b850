-- How the answer of `read` is told to C and COBOL.
use Rattle.std.specs.Prelude.{Result, Ok, Err, List, [], ◌∷◌, ℕ}
use Rattle.books.specs.declared.Counts.{Counts}
use Rattle.books.specs.declared.ReadRefusal.{ReadRefusal}
use Rattle.books.specs.declared.ReadRefusal.TheVariants.{Description, Word, Name, TokenCount, Room}
use Rattle.answers.specs.Answer.{narrowed}

-- the place of a refusal and no count
abbrev pub place_numbers : ℕ → List ℕ
place_numbers place = narrowed place ∷ 0 ∷ 0 ∷ 0 ∷ 0 ∷ 0 ∷ 0 ∷ 0 ∷ 0 ∷ []

-- three counts written, or the place: of 14 to 16 a byte of its text, of 10 what is needed
abbrev pub read_numbers : Result Counts ReadRefusal → List ℕ
read_numbers (Ok c) = 0 ∷ 0 ∷ 0 ∷ narrowed c.tokens ∷ narrowed c.literals ∷ narrowed c.bytes ∷ 0 ∷ 0 ∷ 0 ∷ []
read_numbers (Err (Description place)) = place_numbers place
read_numbers (Err (Word place)) = place_numbers place
read_numbers (Err (Name place)) = place_numbers place
read_numbers (Err TokenCount) = 0 ∷ 0 ∷ 0 ∷ 0 ∷ 0 ∷ 0 ∷ 0 ∷ 0 ∷ 0 ∷ []
read_numbers (Err (Room needed)) = place_numbers needed
