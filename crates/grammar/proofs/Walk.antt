-- Judging and running depend on nothing but what the simple conditions that they come to give.
use mathlib.Core.Path.{◌≡◌, refl}
use mathlib.Core.Bool.{Bool, true, false, cond}
use mathlib.Core.List.Memᴰ
use mathlib.Core.List.{List, [], ◌∷◌, Memᴰ}
use Prim.Native.Nat.{ℕ, zero, suc, ◌+◌}
use lib.Dec.{eqb}
use Rattle.tables.specs.declared.Outcome.{Outcome}
use Rattle.tables.specs.declared.Verdict.{Verdict}
use Rattle.tables.specs.declared.Verdict.TheVariants.{True, False, Refused}
use Rattle.grammar.specs.declared.PlanRow.{PlanRow}
use Rattle.grammar.specs.Grammar.{Tree, simple, negated, bracketed, both, either}
use Rattle.grammar.specs.Judging.{Outcomes, simple_count, when, at, judged, Visit, visit, visited}
use Rattle.grammar.specs.Plan.{on_true, on_false, plan_row, plan_rows, follow, run, reached, run_visits}

module _ (out other : Outcomes) where
  -- both give the same of each of these simple conditions
  abbrev pub Alike : List Visit → Type 0
  Alike vs = (v : Visit) → Memᴰ v vs → out v.subject v.relation v.object ≡ other v.subject v.relation v.object

  -- two ways to go on, of which the verdict takes one
  goes_on : (v f g h k : Verdict) (fs gs hs ks : List Visit) →
      (Alike fs → (f ≡ g) × (fs ≡ gs)) → (Alike hs → (h ≡ k) × (hs ≡ ks)) → Alike (when v fs hs (λ _. [])) →
      (when v f h Refused ≡ when v g k Refused) × (when v fs hs (λ _. []) ≡ when v gs ks (λ _. []))
  unfolding when
  goes_on True f g h k fs gs hs ks p q a = p a
  goes_on False f g h k fs gs hs ks p q a = q a
  goes_on (Refused refusal) f g h k fs gs hs ks p q a = (refl, refl)

  pub judged-alike : (n : ℕ) (t : Tree) → Alike (visited out n t) → (judged out n t ≡ judged other n t) × (visited out n t ≡ visited other n t)
  unfolding judged visited
  judged-alike n (simple a r b) h = (rw (h (visit n a r b) (Memᴰ.head refl)), refl)
  judged-alike n (negated t) h = let p = judged-alike n t h in (rw p.0, p.1)
  judged-alike n (bracketed t) h = judged-alike n t h
  judged-alike n (both t u) h =
      let p = judged-alike n t (λ v m. h v (Memᴰ.append_left _ m)) in
      let q = goes_on (judged out n t) (judged out (n + simple_count t) u) (judged other (n + simple_count t) u) False False
      (visited out (n + simple_count t) u) (visited other (n + simple_count t) u) [] []
      (judged-alike (n + simple_count t) u) (λ _. (refl, refl)) (λ v m. h v (Memᴰ.append_right (visited out n t) m)) in
      (rw (← p.0) q.0, rw (← p.0, ← p.1, q.1))
  judged-alike n (either t u) h =
      let p = judged-alike n t (λ v m. h v (Memᴰ.append_left _ m)) in
      let q = goes_on (judged out n t) True True (judged out (n + simple_count t) u) (judged other (n + simple_count t) u)
      [] [] (visited out (n + simple_count t) u) (visited other (n + simple_count t) u)
      (λ _. (refl, refl)) (judged-alike (n + simple_count t) u) (λ v m. h v (Memᴰ.append_right (visited out n t) m)) in
      (rw (← p.0) q.0, rw (← p.0, ← p.1, q.1))

  pub follow-alike : (row : ℕ → PlanRow) (m k : ℕ) → Alike (reached out row m k) →
      (follow out row m k ≡ follow other row m k) × (reached out row m k ≡ reached other row m k)
  unfolding follow reached
  follow-alike row zero k h = (refl, refl)
  follow-alike row (suc m) k h =
      go (eqb k on_true) (eqb k on_false) (out (row k).subject (row k).relation (row k).object) (other (row k).subject (row k).relation (row k).object) refl refl
      (follow-alike row m (row k).holds) (follow-alike row m (row k).fails) h
    where
      seen : Visit
      seen = visit k (row k).subject (row k).relation (row k).object

      go : (a b : Bool) (o p : Outcome) → out (row k).subject (row k).relation (row k).object ≡ o → other (row k).subject (row k).relation (row k).object ≡ p →
          (Alike (reached out row m (row k).holds) →
          (follow out row m (row k).holds ≡ follow other row m (row k).holds) × (reached out row m (row k).holds ≡ reached other row m (row k).holds)) →
          (Alike (reached out row m (row k).fails) →
          (follow out row m (row k).fails ≡ follow other row m (row k).fails) × (reached out row m (row k).fails ≡ reached other row m (row k).fails)) →
          Alike (cond a [] (cond b [] (seen ∷ when (at k o) (reached out row m (row k).holds) (reached out row m (row k).fails) (λ _. [])))) →
          (cond a True (cond b False (when (at k o) (follow out row m (row k).holds) (follow out row m (row k).fails) Refused))
          ≡ cond a True (cond b False (when (at k p) (follow other row m (row k).holds) (follow other row m (row k).fails) Refused)))
          × (cond a [] (cond b [] (seen ∷ when (at k o) (reached out row m (row k).holds) (reached out row m (row k).fails) (λ _. [])))
          ≡ cond a [] (cond b [] (seen ∷ when (at k p) (reached other row m (row k).holds) (reached other row m (row k).fails) (λ _. []))))
      go true b o p d e i j h = (refl, refl)
      go false true o p d e i j h = (refl, refl)
      go false false o p d e i j h =
          let same : o ≡ p = cc (h seen (Memᴰ.head refl)) in
          let q = goes_on (at k o) (follow out row m (row k).holds) (follow other row m (row k).holds) (follow out row m (row k).fails) (follow other row m (row k).fails)
          (reached out row m (row k).holds) (reached other row m (row k).holds) (reached out row m (row k).fails) (reached other row m (row k).fails)
          i j (λ v m. h v (Memᴰ.tail m)) in
          rw (← same) (q.0, rw q.1)

  pub run-alike : (plan : List ℕ) → Alike (run_visits out plan) → (run out plan ≡ run other plan) × (run_visits out plan ≡ run_visits other plan)
  unfolding run run_visits
  run-alike plan h = follow-alike (plan_row plan) (plan_rows plan) 0 h
