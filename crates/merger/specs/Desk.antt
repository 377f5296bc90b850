-- What the call leaves, and what its private functions promise.
use Rattle.std.specs.Prelude.{◌≡◌, List, [], ◌∷◌, ℕ, Result}
use Rattle.tables.specs.declared.Refusal.{Refusal}
use Rattle.tables.specs.declared.Verdict.{Verdict}
use Rattle.tables.specs.declared.Verdict.TheVariants.{True, False, Refused as Stopped}
use Rattle.tables.specs.Operands.{Lent}
use Rattle.rules.specs.Calls.{run_gives}
use Rattle.items.specs.Lines.{room_check}
use Rattle.merging.specs.declared.Merged.{Merged}
use Rattle.merging.specs.Merge.{Merging}
use Rattle.tables.specs.Refusals.{Check}

-- how many rows are contested, of so many that were changed apart
abbrev pub contested_count : Verdict → ℕ → ℕ
contested_count True apart = 0
contested_count False apart = 0
contested_count (Stopped refusal) apart = apart

-- the verdict is the run's, unless no item was changed apart, where it does not matter
abbrev pub Decides : Lent → List ℕ → List ℕ → ℕ → ℕ → Verdict → Type 0
Decides lent plan first switches apart r = (apart ≡ 0 → ⊥) → r ≡ (run_gives lent plan first switches).verdict

abbrev pub rooms_for : ℕ → ℕ → ℕ → ℕ → List Check
rooms_for bytes rows merged contested = room_check bytes merged ∷ room_check rows contested ∷ []

-- the answer and both outputs of a merge
pub record Leaves (merging : Merging) (r : Result Merged Refusal) (merged contested : List ℕ) : Type 0 where
  pub answered : r ≡ merging.answer
  pub record_is : merged ≡ merging.content
  pub contested_are : contested ≡ merging.rows
