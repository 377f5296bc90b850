-- Document 02, l): a converted tree is judged, and a converted plan run, as the old one, where an off switch gives the opposite of
-- what its on switch gives.
use mathlib.Core.Path.{◌≡◌, refl, sym, ap, ◌∙◌}
use mathlib.Core.Bool.{Bool, true, false, cond, not}
use mathlib.Core.List.{List, [], ◌∷◌, ◌++◌}
use Prim.Native.Nat.{ℕ, zero, suc, ◌+◌, ◌<◌, ◌≤◌}
use native.Mathlib.Omega.{arith}
use native.Mathlib.Decide.{ℕ_discrete, dec_lt}
use lib.ListN.{length}
use Rattle.tables.specs.declared.Verdict.{Verdict}
use Rattle.tables.specs.declared.Verdict.TheVariants.{True, False, Refused}
use Rattle.tables.specs.Tokens.{is_off}
use Rattle.grammar.specs.declared.PlanRow.{PlanRow}
use Rattle.grammar.specs.Grammar.{Tree, simple, negated, bracketed, both, either}
use Rattle.grammar.specs.Judging.{Outcomes, simple_count, when, at, judged, Visit, visit, visited}
use Rattle.grammar.specs.Plan.{on_true, on_false, follow, reached}
use Rattle.grammar.specs.Converted.{on_token, negated_if, tree_on, converted_tree, on_visits, on_row}
use Rattle.grammar.proofs.Judging.{when_not}
use Rattle.grammar.proofs.Segment.{follow-row, follow_true, follow_false, reached-row, reached_true, reached_false}
use Rattle.grammar.proofs.Sure.{Later}
use Rattle.grammar.proofs.Planned.{Each}
use Rattle.grammar.proofs.Converted.{simple_count_on}

-- the visits by on switches
visits_append : (a b : List Visit) → on_visits (a ++ b) ≡ on_visits a ++ on_visits b
unfolding on_visits
visits_append [] b = refl
visits_append (v ∷ a) b = rw (visits_append a b)

pub visits_length : (a : List Visit) → length (on_visits a) ≡ length a
unfolding on_visits
visits_length [] = refl
visits_length (v ∷ a) = ap suc (visits_length a)

visits_when : (v : Verdict) (a b : List Visit) → on_visits (when v a b (λ _. [])) ≡ when v (on_visits a) (on_visits b) (λ _. [])
unfolding on_visits when
visits_when True a b = refl
visits_when False a b = refl
visits_when (Refused refusal) a b = refl

-- a verdict under a NOT, or under none
unfoldable turn : Bool → Verdict → Verdict
turn true v = when v False True Refused
turn false v = v

turn_not : (w : Bool) (v : Verdict) → turn (not w) (when v False True Refused) ≡ turn w v
unfolding turn when
turn_not true v = refl
turn_not false True = refl
turn_not false False = refl
turn_not false (Refused refusal) = refl

module _ (out : Outcomes) where
  -- what an off switch gives is the opposite of what its on switch gives
  abbrev pub Opposite : ℕ → ℕ → ℕ → Type 0
  Opposite a r b = is_off a ≡ true → (n : ℕ) → at n (out (on_token a) r b) ≡ when (at n (out a r b)) False True Refused

  judged_if : (w : Bool) (n : ℕ) (t : Tree) → judged out n (negated_if w t) ≡ turn w (judged out n t)
  unfolding judged turn
  judged_if true n t = refl
  judged_if false n t = refl

  visited_if : (w : Bool) (n : ℕ) (t : Tree) → visited out n (negated_if w t) ≡ visited out n t
  unfolding visited
  visited_if true n t = refl
  visited_if false n t = refl

  judged_simple : (w : Bool) (n a r b : ℕ) → Opposite a r b → judged out n (tree_on w (simple a r b)) ≡ turn w (at n (out a r b))
  unfolding judged tree_on
  judged_simple w n a r b h = go (is_off a) refl
    where
      go : (f : Bool) → is_off a ≡ f →
          judged out n (cond f (negated_if (not w) (simple (on_token a) r b)) (negated_if w (simple a r b))) ≡ turn w (at n (out a r b))
      go true e = judged_if (not w) n (simple (on_token a) r b) ∙ ap (turn (not w)) (h e n) ∙ turn_not w (at n (out a r b))
      go false e = judged_if w n (simple a r b)

  -- of each of the two, one after the other: as it stands, and after a NOT that is not written
  record On (n : ℕ) (t : Tree) : Type 0 where
    plain : judged out n (tree_on false t) ≡ judged out n t
    turned : judged out n (tree_on true t) ≡ judged out n (negated t)
    visits : (w : Bool) → visited out n (tree_on w t) ≡ on_visits (visited out n t)

  -- a tree that is converted inside only: NOT is written before it
  on_inside : (n : ℕ) (t u : Tree) → ((w : Bool) → tree_on w t ≡ negated_if w u) → judged out n u ≡ judged out n t →
      visited out n u ≡ on_visits (visited out n t) → On n t
  unfolding judged
  on_inside n t u e h g =
      record {
        plain = rw (e false) h;
        turned = rw (e true, h);
        visits = λ w. rw (e w) (visited_if w n u ∙ g);
      }

  on_simple : (n a r b : ℕ) → Opposite a r b → On n (simple a r b)
  unfolding judged visited tree_on turn on_visits
  on_simple n a r b h =
      record { plain = judged_simple false n a r b h; turned = judged_simple true n a r b h; visits = λ w. go w (is_off a) }
    where
      go : (w f : Bool) → visited out n (cond f (negated_if (not w) (simple (on_token a) r b)) (negated_if w (simple a r b)))
          ≡ visit n (cond f (on_token a) a) r b ∷ []
      go w true = visited_if (not w) n (simple (on_token a) r b)
      go w false = visited_if w n (simple a r b)

  module _ (n : ℕ) (t u : Tree) (p : On n t) (q : On (n + simple_count t) u) where
    both_judged : judged out n (both (tree_on false t) (tree_on false u)) ≡ judged out n (both t u)
    unfolding judged
    both_judged = rw (simple_count_on false t, p.plain, q.plain)

    both_visited : visited out n (both (tree_on false t) (tree_on false u)) ≡ on_visits (visited out n (both t u))
    unfolding visited on_visits
    both_visited =
        rw (simple_count_on false t, p.plain, p.visits false, q.visits false)
        (sym (visits_append (visited out n t) _ ∙ ap (λ l. on_visits (visited out n t) ++ l) (visits_when (judged out n t) (visited out (n + simple_count t) u) [])))

    both_on : On n (both t u)
    unfolding tree_on
    both_on = on_inside n (both t u) (both (tree_on false t) (tree_on false u)) (λ w. refl) both_judged both_visited

    either_judged : judged out n (either (tree_on false t) (tree_on false u)) ≡ judged out n (either t u)
    unfolding judged
    either_judged = rw (simple_count_on false t, p.plain, q.plain)

    either_visited : visited out n (either (tree_on false t) (tree_on false u)) ≡ on_visits (visited out n (either t u))
    unfolding visited on_visits
    either_visited =
        rw (simple_count_on false t, p.plain, p.visits false, q.visits false)
        (sym (visits_append (visited out n t) _ ∙ ap (λ l. on_visits (visited out n t) ++ l) (visits_when (judged out n t) [] (visited out (n + simple_count t) u))))

    either_on : On n (either t u)
    unfolding tree_on
    either_on = on_inside n (either t u) (either (tree_on false t) (tree_on false u)) (λ w. refl) either_judged either_visited

  on_negated : (n : ℕ) (t : Tree) → On n t → On n (negated t)
  unfolding tree_on judged visited
  on_negated n t p = on_inside n (negated t) (tree_on true t) (λ w. refl) p.turned (p.visits true)

  on_bracketed : (n : ℕ) (t : Tree) → On n t → On n (bracketed t)
  unfolding tree_on judged visited
  on_bracketed n t p = on_inside n (bracketed t) (bracketed (tree_on false t)) (λ w. refl) p.plain (p.visits false)

  on : (n : ℕ) (t : Tree) → Each Opposite t → On n t
  on n (simple a r b) h = on_simple n a r b h
  on n (negated t) h = on_negated n t (on n t h)
  on n (bracketed t) h = on_bracketed n t (on n t h)
  on n (both t u) h = both_on n t u (on n t h.0) (on (n + simple_count t) u h.1)
  on n (either t u) h = either_on n t u (on n t h.0) (on (n + simple_count t) u h.1)

  pub converted_judged : (t : Tree) → Each Opposite t → judged out 0 (converted_tree t) ≡ judged out 0 t
  converted_judged t h = (on 0 t h).plain

  pub converted_visited : (t : Tree) → Each Opposite t → visited out 0 (converted_tree t) ≡ on_visits (visited out 0 t)
  converted_visited t h = (on 0 t h).visits false

-- a row, by what its subject is
row_off : (r : PlanRow) → is_off r.subject ≡ true →
    on_row r ≡ record { subject = on_token r.subject; relation = r.relation; object = r.object; holds = r.fails; fails = r.holds }
unfolding on_row
row_off r e = rw e

row_else : (r : PlanRow) → is_off r.subject ≡ false → on_row r ≡ r
unfolding on_row
row_else r e = rw e

-- running a plan whose rows are those of another one, converted
module _ (out : Outcomes) (old new : ℕ → PlanRow) (rows : ℕ)
    (converted : (k : ℕ) → k < rows → new k ≡ on_row (old k))
    (later : (k : ℕ) → k < rows → Later rows k (old k).holds × Later rows k (old k).fails)
    (opposite : (k : ℕ) → k < rows → Opposite out (old k).subject (old k).relation (old k).object) where
  record Runs (m k : ℕ) : Type 0 where
    verdict : follow out new m k ≡ follow out old m k
    visits : reached out new m k ≡ on_visits (reached out old m k)

  abbrev Near : ℕ → Type 0
  Near k = (k ≤ on_true) × (k < on_false → k < rows)

  module _ (m k : ℕ) (l : k < on_false) (h : Runs m (old k).holds) (f : Runs m (old k).fails) where
    step_off : new k ≡ on_row (old k) → Opposite out (old k).subject (old k).relation (old k).object → is_off (old k).subject ≡ true → Runs (suc m) k
    unfolding on_visits
    step_off e o i =
        let g = e ∙ row_off (old k) i in
        record {
          verdict =
              follow-row out new m k l
              ∙ rw (g, o i k, h.verdict, f.verdict) (sym (when_not (at k (out (old k).subject (old k).relation (old k).object)) _ _ Refused))
              ∙ sym (follow-row out old m k l);
          visits =
              reached-row out new m k l
              ∙ rw (g, o i k, h.visits, f.visits, reached-row out old m k l, i)
              (ap (λ w. visit k (on_token (old k).subject) (old k).relation (old k).object ∷ w)
              (sym (visits_when (at k (out (old k).subject (old k).relation (old k).object)) _ _
              ∙ when_not (at k (out (old k).subject (old k).relation (old k).object)) _ _ (λ _. []))));
        }

    step_else : new k ≡ on_row (old k) → is_off (old k).subject ≡ false → Runs (suc m) k
    unfolding on_visits
    step_else e i =
        let g = e ∙ row_else (old k) i in
        record {
          verdict = follow-row out new m k l ∙ rw (g, h.verdict, f.verdict) (sym (follow-row out old m k l));
          visits =
              reached-row out new m k l
              ∙ rw (g, h.visits, f.visits, reached-row out old m k l, i)
              (ap (λ w. visit k (old k).subject (old k).relation (old k).object ∷ w)
              (sym (visits_when (at k (out (old k).subject (old k).relation (old k).object)) _ _)));
        }

    step : k < rows → Runs (suc m) k
    step here = go (is_off (old k).subject) refl
      where
        go : (b : Bool) → is_off (old k).subject ≡ b → Runs (suc m) k
        go true i = step_off (converted k here) (opposite k here) i
        go false i = step_else (converted k here) i

  ended : (m k : ℕ) → k ≤ on_true → (k < on_false → ⊥) → Runs m k
  unfolding on_visits
  ended m k top h = by (ℕ_discrete k on_true)
    where
      by : Dec (k ≡ on_true) → Runs m k
      by (yes e) =
          rw e (record { verdict = follow_true out new m ∙ sym (follow_true out old m); visits = reached_true out new m ∙ ap on_visits (sym (reached_true out old m)) })
      by (no n) =
          let e : k ≡ on_false = omega arith in
          rw e (record { verdict = follow_false out new m ∙ sym (follow_false out old m); visits = reached_false out new m ∙ ap on_visits (sym (reached_false out old m)) })

  none : (k : ℕ) → Runs zero k
  unfolding follow reached on_visits
  none k = record { verdict = refl; visits = refl }

  runs_on : (m k : ℕ) → Near k → Runs m k
  runs_on zero k near = none k
  runs_on (suc m) k near = by (dec_lt k on_false) (runs_on m)
    where
      by : Dec (k < on_false) → ((j : ℕ) → Near j → Runs m j) → Runs (suc m) k
      by (yes l) rest =
          let here = near.1 l in
          let t = later k here in
          step m k l (rest (old k).holds (t.0.top, t.0.inside)) (rest (old k).fails (t.1.top, t.1.inside)) here
      by (no l) rest = ended (suc m) k near.0 l

  pub converted_runs : (m : ℕ) → 0 < rows → (follow out new m 0 ≡ follow out old m 0) × (reached out new m 0 ≡ on_visits (reached out old m 0))
  converted_runs m some = let r = runs_on m 0 (omega arith, λ _. some) in (r.verdict, r.visits)
