-- The list of visits is a walk from left to right: numbers rise, each belongs to the tree, and a stop is the last.
use mathlib.Core.Path.{◌≡◌, refl, sym, ap, ◌∙◌}
use mathlib.Core.List.{List, [], ◌∷◌, ◌++◌, append-nil, append_assoc}
use Prim.Native.Nat.{ℕ, suc, ◌+◌, ◌≤◌}
use native.Mathlib.Omega.{arith}
use native.Mathlib.Nat.{add_assoc}
use Rattle.tables.specs.declared.Verdict.{Verdict}
use Rattle.tables.specs.declared.Verdict.TheVariants.{True, False, Refused}
use Rattle.tables.specs.declared.Refusal.{Refusal}
use Rattle.grammar.specs.Grammar.{Tree, simple, negated, bracketed, both, either}
use Rattle.grammar.specs.Judging.{Outcomes, simple_count, when, at, judged, Visit, visit, visited}

-- numbers from `low` on, each greater than the one before, all below `high`
abbrev pub Rising : ℕ → ℕ → List Visit → Type 0
Rising low high [] = low ≤ high
Rising low high (v ∷ visits) = (low ≤ v.number) × Rising (suc v.number) high visits

rising_from : (low more high : ℕ) (visits : List Visit) → low ≤ more → Rising more high visits → Rising low high visits
rising_from low more high [] l h = omega arith
rising_from low more high (v ∷ visits) l h = (omega (arith, h.0), h.1)

rising-append : (low middle high : ℕ) (a b : List Visit) → Rising low middle a → Rising middle high b → Rising low high (a ++ b)
rising-append low middle high [] b h g = rising_from low middle high b h g
rising-append low middle high (v ∷ a) b h g = (h.0, rising-append (suc v.number) middle high a b h.1 g)

rising-when : (v : Verdict) (low high : ℕ) (a b : List Visit) → low ≤ high → Rising low high a → Rising low high b → Rising low high (when v a b (λ _. []))
unfolding when
rising-when True low high a b l h g = h
rising-when False low high a b l h g = g
rising-when (Refused refusal) low high a b l h g = l

pub visited-rising : (out : Outcomes) (n : ℕ) (t : Tree) → Rising n (n + simple_count t) (visited out n t)
unfolding simple_count visited
visited-rising out n (simple a r b) = omega arith
visited-rising out n (negated t) = visited-rising out n t
visited-rising out n (bracketed t) = visited-rising out n t
visited-rising out n (both t u) =
    rw (← add_assoc n (simple_count t) (simple_count u))
    (rising-append n (n + simple_count t) (n + simple_count t + simple_count u) (visited out n t) _ (visited-rising out n t)
    (rising-when (judged out n t) (n + simple_count t) (n + simple_count t + simple_count u) (visited out (n + simple_count t) u) [] (omega arith) (visited-rising out (n + simple_count t) u) (omega arith)))
visited-rising out n (either t u) =
    rw (← add_assoc n (simple_count t) (simple_count u))
    (rising-append n (n + simple_count t) (n + simple_count t + simple_count u) (visited out n t) _ (visited-rising out n t)
    (rising-when (judged out n t) (n + simple_count t) (n + simple_count t + simple_count u) [] (visited out (n + simple_count t) u) (omega arith) (omega arith) (visited-rising out (n + simple_count t) u)))

-- the last of the visits is the one that stops
pub record Stops (out : Outcomes) (visits : List Visit) (refusal : Refusal) : Type 0 where
  pub before : List Visit
  pub last : Visit
  pub split : visits ≡ before ++ last ∷ []
  pub stops : at last.number (out last.subject last.relation last.object) ≡ Refused refusal

module _ (out : Outcomes) (refusal : Refusal) where
  after_more : (a b : List Visit) → Stops out b refusal → Stops out (a ++ b) refusal
  after_more a b s =
      record {
        before = a ++ s.before;
        last = s.last;
        split = ap (λ l. a ++ l) s.split ∙ sym (append_assoc a s.before (s.last ∷ []));
        stops = s.stops;
      }

  stops_not : (v : Verdict) → when v False True Refused ≡ Refused refusal → v ≡ Refused refusal
  unfolding when
  stops_not True e = absurd (let z : ◌≡◌ {A = ℕ} 0 1 = cc in omega arith)
  stops_not False e = absurd (let z : ◌≡◌ {A = ℕ} 0 1 = cc in omega arith)
  stops_not (Refused other) e = e

  stops_both : (v w : Verdict) (a b : List Visit) → (v ≡ Refused refusal → Stops out a refusal) → (w ≡ Refused refusal → Stops out b refusal) →
      when v w False Refused ≡ Refused refusal → Stops out (a ++ when v b [] (λ _. [])) refusal
  unfolding when
  stops_both True w a b p q e = after_more a b (q e)
  stops_both False w a b p q e = absurd (let z : ◌≡◌ {A = ℕ} 0 1 = cc in omega arith)
  stops_both (Refused other) w a b p q e = rw append-nil (p e)

  stops_either : (v w : Verdict) (a b : List Visit) → (v ≡ Refused refusal → Stops out a refusal) → (w ≡ Refused refusal → Stops out b refusal) →
      when v True w Refused ≡ Refused refusal → Stops out (a ++ when v [] b (λ _. [])) refusal
  unfolding when
  stops_either True w a b p q e = absurd (let z : ◌≡◌ {A = ℕ} 0 1 = cc in omega arith)
  stops_either False w a b p q e = after_more a b (q e)
  stops_either (Refused other) w a b p q e = rw append-nil (p e)

  -- "A stop ends all judging": "a refused one counted"
  pub stop_last : (n : ℕ) (t : Tree) → judged out n t ≡ Refused refusal → Stops out (visited out n t) refusal
  unfolding judged visited
  stop_last n (simple a r b) e = record { before = []; last = visit n a r b; split = refl; stops = e }
  stop_last n (negated t) e = stop_last n t (stops_not (judged out n t) e)
  stop_last n (bracketed t) e = stop_last n t e
  stop_last n (both t u) e = stops_both (judged out n t) (judged out (n + simple_count t) u) _ _ (stop_last n t) (stop_last (n + simple_count t) u) e
  stop_last n (either t u) e = stops_either (judged out n t) (judged out (n + simple_count t) u) _ _ (stop_last n t) (stop_last (n + simple_count t) u) e
