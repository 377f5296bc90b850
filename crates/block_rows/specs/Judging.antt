-- The truths of one row for the records of a block.
use Rattle.std.specs.Prelude.{◌≡◌, List, ℕ, ◌<◌, get_or}
use Rattle.tables.specs.declared.Outcome.{Outcome}
use Rattle.tables.specs.declared.Outcome.TheVariants.{True as Holds, False as Fails, Stopped}
use Rattle.tables.specs.Operands.{Lent}
use Rattle.grammar.specs.declared.PlanRow.{PlanRow}
use Rattle.block_truths.specs.Columns.{outcome_at, Right}

-- "A simple condition gives true, false or its stop": a stop is not judged here, and its record is run by itself
abbrev pub truth_number : Outcome → ℕ
truth_number Fails = 0
truth_number Holds = 1
truth_number (Stopped stop) = 2

-- the truths of one row are right for each of the first n records that stands there
abbrev pub Judges : Lent → List ℕ → ℕ → ℕ → ℕ → ℕ → PlanRow → List ℕ → ℕ → List ℕ → Type 0
Judges lent records from size n switches r at row truths =
    (j : ℕ) → j < n → get_or at j 0 ≡ row → Right (outcome_at lent records from size switches r j) (get_or truths j 0)
