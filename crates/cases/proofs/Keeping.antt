-- The plan that is kept.
use mathlib.Core.Path.{◌≡◌, refl, sym, ap, ◌∙◌}
use mathlib.Core.List.{List, ◌∷◌}
use Prim.Native.Nat.{ℕ, zero, suc, ◌≤◌}
use native.Mathlib.Omega.{arith}
use lib.ListN.{take, replicate}
use Rattle.tables.specs.declared.Refusal.{Refusal}
use Rattle.rules.specs.Calls.{Gives, Leaves}
use Rattle.cases.specs.Stores.{kept_as}
use Rattle.cases.specs.Plans.{kept_of, plan_kept}
use Rattle.tables.specs.Refusals.{Written}
use Rattle.std.specs.Prelude.{Err, Ok}

module _ (store : List ℕ) {gives : Gives} {given : Written} {out : List ℕ} (L : Leaves gives given out) where
  kept_as_lem : (w : Written) → given ≡ w → kept_of store w out ≡ plan_kept store gives
  kept_as_lem w q = ap (λ (o : List ℕ). kept_of store w o) L.left ∙ ap (λ (v : Written). kept_of store v gives.output) (sym q ∙ L.answered)

  pub kept_count : {n : ℕ} {numbers after : List ℕ} → given ≡ Ok n → numbers ≡ take n out → after ≡ kept_as store 12288 numbers
      → (after ≡ plan_kept store gives) × (out ≡ gives.output)
  kept_count {n} q f k = (k ∙ ap (kept_as store 12288) f ∙ kept_as_lem (Ok n) q, L.left)

  pub kept_none : {refusal : Refusal} → given ≡ Err refusal → (store ≡ plan_kept store gives) × (out ≡ gives.output)
  kept_none {refusal} q = (kept_as_lem (Err refusal) q, L.left)

-- so many of a list of sevens
pub sevens : (n m : ℕ) → n ≤ m → take {A = ℕ} n (replicate m 7) ≡ replicate n 7
sevens zero m h = refl
sevens (suc n) zero h = absurd (omega arith)
sevens (suc n) (suc m) h = ap (λ (l : List ℕ). 7 ∷ l) (sevens n m (omega arith))
