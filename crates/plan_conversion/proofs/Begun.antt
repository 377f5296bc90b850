-- How far the converter of plans has come: the first k rows, converted.
use mathlib.Core.Path.{◌≡◌, refl, ap}
use mathlib.Core.List.{List, [], ◌∷◌, ◌++◌}
use Prim.Native.Nat.{ℕ, zero, suc, ◌+◌}
use native.Mathlib.Omega.{arith}
use native.Mathlib.Numerals.{add-one}
use native.Mathlib.Nat.{zero-add, add-zero}
use Rattle.grammar.specs.declared.PlanRow.{PlanRow}
use Rattle.grammar.specs.Plan.{flat, plan_row, plan_rows}
use Rattle.grammar.specs.Converted.{on_row, on_rows, rows_from, converted_plan}
use Rattle.plans.proofs.Buffer.{flat_append}

-- one row more
from_more : (row : ℕ → PlanRow) (j k : ℕ) → on_rows (rows_from row j (suc k)) ≡ on_rows (rows_from row j k) ++ on_row (row (j + k)) ∷ []
unfolding on_rows rows_from
from_more row j zero = rw add-zero
from_more row j (suc k) =
    let e : j + suc k ≡ suc j + k = omega arith in
    rw e (ap (λ rows. on_row (row j) ∷ rows) (from_more row (suc j) k))

-- the numbers of the first k rows
unfoldable pub begun : List ℕ → ℕ → List ℕ
begun plan k = flat (on_rows (rows_from (plan_row plan) 0 k))

pub begun_none : (plan : List ℕ) → begun plan 0 ≡ []
unfolding begun on_rows rows_from flat
begun_none plan = refl

pub begun_more : (plan : List ℕ) (k : ℕ) → begun plan (k + 1) ≡ begun plan k ++ flat (on_row (plan_row plan k) ∷ [])
unfolding begun
begun_more plan k = rw (add-one, from_more (plan_row plan) 0 k, zero-add) (flat_append (on_rows (rows_from (plan_row plan) 0 k)) (on_row (plan_row plan k) ∷ []))

pub begun_all : (plan : List ℕ) → begun plan (plan_rows plan) ≡ converted_plan plan
unfolding begun converted_plan
begun_all plan = refl
