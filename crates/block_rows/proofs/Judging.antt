-- The truths of a row, record by record.
use mathlib.Core.Path.{◌≡◌, refl, ap, ◌∙◌}
use mathlib.Core.Bool.{false}
use mathlib.Core.List.{List}
use Prim.Native.Nat.{ℕ, ◌<◌, ◌≤◌}
use native.Mathlib.Omega.{arith}
use lib.ListN.{get_or}
use Rattle.tables.specs.declared.Outcome.{Outcome}
use Rattle.tables.specs.declared.Outcome.TheVariants.{True as Holds, False as Fails, Stopped}
use Rattle.tables.specs.Operands.{Lent}
use Rattle.tables.specs.Tokens.{is_name}
use Rattle.values.specs.Truth.{outcome}
use Rattle.grammar.specs.declared.PlanRow.{PlanRow}
use Rattle.block_truths.specs.Columns.{record_at, Right}
use Rattle.block_rows.specs.Judging.{truth_number, Judges}

-- the number of what a simple condition comes to is right
pub right : (out : Outcome) {truth : ℕ} → truth ≡ truth_number out → Right out truth
right Fails e = record { fails = λ _. refl; holds = λ f. absurd (omega (arith, e, f)) }
right Holds e = record { fails = λ f. absurd (omega (arith, e, f)); holds = λ _. refl }
right (Stopped stop) e = record { fails = λ f. absurd (omega (arith, e, f)); holds = λ f. absurd (omega (arith, e, f)) }

-- a switch row comes to the same on any record
pub any_record : (lent : Lent) (one other : List ℕ) (switches subject relation object : ℕ) → relation ≡ 0 → is_name subject ≡ false
    → outcome lent one switches subject relation object ≡ outcome lent other switches subject relation object
unfolding outcome
any_record lent one other switches subject relation object e f = rw (e, f)

-- a switch row, judged on any record at all
pub once : (lent : Lent) (records : List ℕ) (from size n switches : ℕ) (r : PlanRow) (at : List ℕ) (row : ℕ) (truths one : List ℕ) {truth : ℕ} → n ≤ 64
    → r.relation ≡ 0 → is_name r.subject ≡ false → truth ≡ truth_number (outcome lent one switches r.subject r.relation r.object)
    → ((j : ℕ) → j < 64 → get_or truths j 0 ≡ truth) → Judges lent records from size n switches r at row truths
once lent records from size n switches r at row truths one few e f g h j l _ =
    right _ (h j (omega arith) ∙ g ∙ ap truth_number (any_record lent one (record_at records from size j) switches r.subject r.relation r.object e f))
