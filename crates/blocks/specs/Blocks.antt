-- A block of at most 64 records of one size, which start at a byte of a file, run through one plan.
use Rattle.std.specs.Prelude.{◌≡◌, cond, List, ℕ, ◌<◌, ◌≤◌, get_or, eqb, Ok}
use Rattle.tables.specs.declared.Judged.{Judged}
use Rattle.tables.specs.declared.Verdict.TheVariants.{True, False}
use Rattle.tables.specs.Operands.{Lent}
use Rattle.values.specs.Truth.{outcome}
use Rattle.grammar.specs.Plan.{on_true, on_false, plan_check, plan_rows, running}
use Rattle.rules.specs.Calls.{told}
use Rattle.runner.specs.Runs.{Runnable}
use Rattle.places.specs.Places.{UpTo}
use Rattle.block_truths.specs.Columns.{record_at, Laid}

-- a plan that can be run on each record of a block
pub record Walkable (lent : Lent) (plan records : List ℕ) (from size n : ℕ) : Type 0 where
  pub laid : Laid records from size n
  pub sound : plan_check lent plan ≡ Ok tt
  pub runnable : (j : ℕ) → j < n → Runnable lent plan (record_at records from size j)

-- "A target is the row judged next, always a later one, or a verdict": the place of a target
abbrev pub place_of : ℕ → ℕ
place_of target = cond (eqb target on_true) 129 (cond (eqb target on_false) 128 target)

pub record Placed (target : ℕ) : Type 0 where
  pub top : target ≤ on_true
  pub inside : target < on_false → target < 128

-- Where a record stands at the end: at a verdict, with as many simple conditions judged as the run of that record has; or, at 130, it is not known here.
pub record Settled (judged : Judged) (place count : ℕ) : Type 0 where
  pub done : 128 ≤ place
  pub most : place ≤ 130
  pub fails : place ≡ 128 → judged ≡ record { verdict = False; count = count }
  pub holds : place ≡ 129 → judged ≡ record { verdict = True; count = count }

-- What a walk leaves: n records, each settled, and no others; the count of a record that is not known here is at most the plan's rows.
pub record Walked (lent : Lent) (plan records : List ℕ) (from size n switches : ℕ) (at counts : List ℕ) : Type 0 where
  pub settled : (j : ℕ) → j < n → Settled (told (running (outcome lent (record_at records from size j) switches) plan)) (get_or at j 0) (get_or counts j 0)
  pub others : (j : ℕ) → n ≤ j → j < 64 → (get_or at j 0 ≡ 130) × (get_or counts j 0 ≡ 0)
  pub few : UpTo (plan_rows plan) counts
