-- Refusal 8's place is one of the tokens, and its number is 8.
use mathlib.Core.Path.{◌≡◌, refl}
use mathlib.Core.Bool.{Bool, true, false, cond}
use mathlib.Core.List.{List, [], ◌∷◌}
use Prim.Native.Nat.{ℕ, suc, pred, ◌+◌, ◌<◌}
use native.Mathlib.Omega.{arith}
use lib.ListN.{length}
use lib.Dec.{eqb}
use Rattle.tables.specs.declared.Refusal.{Refusal}
use Rattle.tables.specs.declared.Refusal.TheVariants.{Depth}
use Rattle.tables.specs.Refusals.{number, place}
use Rattle.grammar.specs.Depth.{depth_from, depth_check}
use Rattle.std.specs.Prelude.{Err}

inside_from : (at opened : ℕ) (ts : List ℕ) {r : Refusal} → depth_from at opened ts ≡ Err r → place r < at + length ts
unfolding depth_from
inside_from at opened [] e = let z : ◌≡◌ {A = ℕ} 0 1 = cc in absurd (omega arith)
inside_from at opened (x ∷ ts) {r} e = pick (eqb x 262144) (eqb opened 16) (λ n. inside_from (suc at) n ts) e
  where
    pick : (b c : Bool) → ((n : ℕ) → depth_from (suc at) n ts ≡ Err r → place r < suc at + length ts) →
        cond b
        (cond c (Err (Depth at)) (depth_from (suc at) (suc opened) ts))
        (depth_from (suc at) (cond (eqb x 262145) (pred opened) opened) ts)
        ≡ Err r → place r < at + suc (length ts)
    pick true true later h = let same : Depth at ≡ r = cc in rw (← same) (omega arith)
    pick true false later h = omega (arith, later (suc opened) h)
    pick false c later h = omega (arith, later (cond (eqb x 262145) (pred opened) opened) h)

eight_from : (at opened : ℕ) (ts : List ℕ) {r : Refusal} → depth_from at opened ts ≡ Err r → number r ≡ 8
unfolding depth_from
eight_from at opened [] e = let z : ◌≡◌ {A = ℕ} 0 1 = cc in absurd (omega arith)
eight_from at opened (x ∷ ts) {r} e = pick (eqb x 262144) (eqb opened 16) (λ n. eight_from (suc at) n ts) e
  where
    pick : (b c : Bool) → ((n : ℕ) → depth_from (suc at) n ts ≡ Err r → number r ≡ 8) →
        cond b
        (cond c (Err (Depth at)) (depth_from (suc at) (suc opened) ts))
        (depth_from (suc at) (cond (eqb x 262145) (pred opened) opened) ts)
        ≡ Err r → number r ≡ 8
    pick true true later h = let same : Depth at ≡ r = cc in rw (← same) refl
    pick true false later h = later (suc opened) h
    pick false c later h = later (cond (eqb x 262145) (pred opened) opened) h

pub depth_eight : (tokens : List ℕ) {r : Refusal} → depth_check tokens ≡ Err r → number r ≡ 8
depth_eight tokens = eight_from 0 0 tokens

pub depth_inside : (tokens : List ℕ) {r : Refusal} → depth_check tokens ≡ Err r → place r < length tokens
depth_inside tokens e = omega (arith, inside_from 0 0 tokens e)
