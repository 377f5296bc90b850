-- Places and targets.
use mathlib.Core.Path.{◌≡◌, refl, sym, ◌∙◌}
use mathlib.Core.Bool.{Bool, true, false, cond}
use Prim.Native.Nat.{ℕ, ◌+◌, ◌<◌, ◌≤◌}
use native.Mathlib.Omega.{arith}
use lib.Dec.{eqb, ltb}
use borrow.Author.Tests.{eqb-true, eqb-false, ltb-true, ltb-false}
use Rattle.grammar.specs.Plan.{on_true, on_false}
use Rattle.grammar.proofs.Sure.{Later}
use Rattle.places.specs.Places.{next_place, next_count}
use Rattle.blocks.specs.Blocks.{place_of, Placed}

-- a target of a plan of at most 128 rows has a place
pub placed : {rows k target : ℕ} → rows ≤ 128 → Later rows k target → Placed target
placed few l = record { top = l.top; inside = λ b. omega (arith, l.inside b) }

-- the three kinds of target, by their tests
pub data Kind (target : ℕ) : Type 0 where
  at_true : target ≡ on_true → place_of target ≡ 129 → Kind target
  at_false : target ≡ on_false → place_of target ≡ 128 → Kind target
  at_row : target < 128 → place_of target ≡ target → Kind target

pub kind : {target : ℕ} → Placed target → Kind target
kind {target} p = by (eqb target on_true) (eqb target on_false) refl refl
  where
    by : (a b : Bool) → eqb target on_true ≡ a → eqb target on_false ≡ b → Kind target
    by true b e f = at_true (eqb-true target on_true e) (rw e)
    by false true e f = at_false (eqb-true target on_false f) (rw (e, f))
    by false false e f =
        at_row (p.inside (omega (arith, p.top, eqb-false target on_true e, eqb-false target on_false f))) (rw (e, f))

-- a target by its place
pub target_row : {target row : ℕ} → Placed target → row ≡ place_of target → row < 128 → target ≡ row
target_row {target} {row} p e l = by (kind p)
  where
    by : Kind target → target ≡ row
    by (at_true t f) = absurd (omega (arith, e, f))
    by (at_false t f) = absurd (omega (arith, e, f))
    by (at_row t f) = sym (e ∙ f)

pub target_false : {target place : ℕ} → Placed target → place ≡ place_of target → place ≡ 128 → target ≡ on_false
target_false {target} {place} p e l = by (kind p)
  where
    by : Kind target → target ≡ on_false
    by (at_true t f) = absurd (omega (arith, e, f))
    by (at_false t f) = t
    by (at_row t f) = absurd (omega (arith, e, f))

pub target_true : {target place : ℕ} → Placed target → place ≡ place_of target → place ≡ 129 → target ≡ on_true
target_true {target} {place} p e l = by (kind p)
  where
    by : Kind target → target ≡ on_true
    by (at_true t f) = t
    by (at_false t f) = absurd (omega (arith, e, f))
    by (at_row t f) = absurd (omega (arith, e, f))

-- a target stands after its row
pub later_place : {rows k target : ℕ} → rows ≤ 128 → k < rows → Later rows k target → k < place_of target
later_place {rows} {k} {target} few l t = by (kind (placed few t))
  where
    by : Kind target → k < place_of target
    by (at_true e f) = omega (arith, f)
    by (at_false e f) = omega (arith, f)
    by (at_row e f) = omega (arith, f, t.after)

-- who stands at a row leaves it
pub leaves_row : (row holds fails place truth : ℕ) → row < 128 → row < holds → row < fails → row ≤ place → row + 1 ≤ next_place row holds fails place truth
leaves_row row holds fails place truth l h f p = by (eqb place row) (ltb truth 2) (eqb truth 1) refl
  where
    by : (a b c : Bool) → eqb place row ≡ a → row + 1 ≤ cond a (cond b (cond c holds fails) 130) place
    by true true true e = omega arith
    by true true false e = omega arith
    by true false c e = omega arith
    by false b c e = omega (arith, eqb-false place row e)

-- a count rises by one at most
pub little_more : (row place count : ℕ) → next_count row place count ≤ count + 1
little_more row place count = by (eqb place row)
  where
    by : (a : Bool) → cond a (count + 1) count ≤ count + 1
    by true = omega arith
    by false = omega arith
