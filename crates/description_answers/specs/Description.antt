-- How the answer of `describe` is told to C and COBOL.
use Rattle.std.specs.Prelude.{List, [], ◌∷◌, ℕ}
use Rattle.describing.specs.declared.Described.{Described}
use Rattle.describing.specs.declared.Described.TheVariants.{Counts, Faulty, Room}
use Rattle.answers.specs.Answer.{narrowed}

-- six counts written, or the place: of 14 the faulty byte or the entry, of 10 the numbers needed
abbrev pub described_numbers : Described → List ℕ
described_numbers (Counts rows places names name_places literals bytes) =
    0 ∷ 0 ∷ 0 ∷ narrowed rows ∷ narrowed places ∷ narrowed names ∷ narrowed name_places ∷ narrowed literals ∷ narrowed bytes ∷ []
described_numbers (Faulty place) = narrowed place ∷ 0 ∷ 0 ∷ 0 ∷ 0 ∷ 0 ∷ 0 ∷ 0 ∷ 0 ∷ []
described_numbers (Room needed) = narrowed needed ∷ 0 ∷ 0 ∷ 0 ∷ 0 ∷ 0 ∷ 0 ∷ 0 ∷ 0 ∷ []
