-- The run of a tree's plan is the judging of the tree.
use mathlib.Core.Path.{◌≡◌, refl, sym, ap, ◌∙◌}
use mathlib.Core.Bool.{Bool, true, false, cond}
use lib.Dec.{eqb}
use mathlib.Core.List.{List, [], ◌∷◌, ◌++◌, append-nil, append_assoc}
use Prim.Native.Nat.{ℕ, zero, suc, ◌+◌, ◌*◌, ◌-◌, ◌<◌, ◌≤◌}
use native.Mathlib.Omega.{arith}
use native.Mathlib.Nat.{zero-add, add-zero, add_assoc}
use native.Mathlib.Numerals.{one-add}
use lib.ListN.{length, get_or, length-append, get_or-append}
use lib.Seq.{get_or-append-add}
use borrow.Author.Tests.{ne_eqb}
use Rattle.tables.specs.declared.Verdict.{Verdict}
use Rattle.tables.specs.declared.Verdict.TheVariants.{True, False, Refused}
use Rattle.grammar.specs.declared.PlanRow.{PlanRow}
use Rattle.grammar.specs.Grammar.{Tree, simple, negated, bracketed, both, either}
use Rattle.grammar.specs.Judging.{Outcomes, simple_count, when, at, judged, Visit, visit, visited}
use Rattle.grammar.specs.Plan.{on_false, on_true, rows_of, flat, planned, plan_row, plan_rows, follow, run, reached, run_visits}
use Rattle.grammar.proofs.Judging.{when-same, when_not, when-length, visited_le}

pub rows-count : (n y f : ℕ) (t : Tree) → length (rows_of n y f t) ≡ simple_count t
unfolding simple_count rows_of
rows-count n y f (simple a r b) = refl
rows-count n y f (negated t) = rows-count n f y t
rows-count n y f (bracketed t) = rows-count n y f t
rows-count n y f (both t u) = rw length-append (omega (arith, rows-count n (n + simple_count t) f t, rows-count (n + simple_count t) y f u))
rows-count n y f (either t u) = rw length-append (omega (arith, rows-count n y (n + simple_count t) t, rows-count (n + simple_count t) y f u))

-- no row: what a lookup past the end gives
abbrev pub blank : PlanRow
blank = record { subject = 0; relation = 0; object = 0; holds = 0; fails = 0 }

-- The rows stand in a plan, given by its lookup, from row n on.
pub record Stands (row : ℕ → PlanRow) (n : ℕ) (rows : List PlanRow) : Type 0 where
  pub stands : (k : ℕ) → k < length rows → row (n + k) ≡ get_or rows k blank

pub stands_left : (row : ℕ → PlanRow) (n : ℕ) (a b : List PlanRow) → Stands row n (a ++ b) → Stands row n a
stands_left row n a b h =
    record { stands = λ k l. h.stands k (rw length-append (omega arith)) ∙ get_or-append a b blank k l }

pub stands_right : (row : ℕ → PlanRow) (n m : ℕ) (a b : List PlanRow) → Stands row n (a ++ b) → length a ≡ m → Stands row (n + m) b
stands_right row n m a b h e =
    record {
      stands = λ k l.
          ap row (let z : (n + m) + k ≡ n + (length a + k) = omega arith in z)
          ∙ h.stands (length a + k) (rw length-append (omega arith))
          ∙ get_or-append-add a b k blank;
    }

-- the one row of a simple condition, and the rows of two trees, one after the other
pub stands_one : (row : ℕ → PlanRow) (n : ℕ) (r : PlanRow) → Stands row n (r ∷ []) → row n ≡ r
stands_one row n r h = rw add-zero at (h.stands 0 (omega arith))

pub stands_parts : (row : ℕ → PlanRow) (n y f z g : ℕ) (t u : Tree) → Stands row n (rows_of n y f t ++ rows_of (n + simple_count t) z g u) →
    Stands row n (rows_of n y f t) × Stands row (n + simple_count t) (rows_of (n + simple_count t) z g u)
stands_parts row n y f z g t u h =
    let a : List PlanRow = rows_of n y f t in
    let b : List PlanRow = rows_of (n + simple_count t) z g u in
    (stands_left row n a b h, stands_right row n (simple_count t) a b h (rows-count n y f t))

-- one row
pub follow-row : (out : Outcomes) (row : ℕ → PlanRow) (m k : ℕ) → k < on_false →
    follow out row (suc m) k
    ≡ when (at k (out (row k).subject (row k).relation (row k).object)) (follow out row m (row k).holds) (follow out row m (row k).fails) Refused
unfolding follow
follow-row out row m k l = rw (ne_eqb k on_true (λ e. omega arith), ne_eqb k on_false (λ e. omega arith))

pub follow_true : (out : Outcomes) (row : ℕ → PlanRow) (m : ℕ) → follow out row m on_true ≡ True
unfolding follow
follow_true out row zero = refl
follow_true out row (suc m) = refl

pub follow_false : (out : Outcomes) (row : ℕ → PlanRow) (m : ℕ) → follow out row m on_false ≡ False
unfolding follow
follow_false out row zero = refl
follow_false out row (suc m) = refl

-- What comes after the first part of a chain, and of a condition. `F m k` goes on from target k with m rows left; it is a
-- variable, so that the cases of a verdict are told apart once and not inside the induction.
module _ (F : ℕ → ℕ → Verdict) where
  after_both : (v w : Verdict) (j m k y f : ℕ) →
      F (j + m) k ≡ when w (F m y) (F m f) Refused →
      when v (F (when v j 0 (λ _. 0) + m) k) (F (when v j 0 (λ _. 0) + m) f) Refused ≡ when (when v w False Refused) (F m y) (F m f) Refused
  unfolding when
  after_both True w j m k y f h = h
  after_both False w j m k y f h = rw zero-add
  after_both (Refused refusal) w j m k y f h = refl

  after_either : (v w : Verdict) (j m k y f : ℕ) →
      F (j + m) k ≡ when w (F m y) (F m f) Refused →
      when v (F (when v 0 j (λ _. 0) + m) y) (F (when v 0 j (λ _. 0) + m) k) Refused ≡ when (when v True w Refused) (F m y) (F m f) Refused
  unfolding when
  after_either True w j m k y f h = rw zero-add
  after_either False w j m k y f h = h
  after_either (Refused refusal) w j m k y f h = refl

-- The rows of a tree, wherever they stand, are run as the tree is judged: with as many rows as the judging visits, and m more, the run
-- comes to the exit of the verdict with m left, or stops with the same refusal.
pub segment : (out : Outcomes) (row : ℕ → PlanRow) (t : Tree) (n y f m : ℕ) → n + simple_count t ≤ on_false → Stands row n (rows_of n y f t) →
    follow out row (length (visited out n t) + m) n ≡ when (judged out n t) (follow out row m y) (follow out row m f) Refused
unfolding simple_count rows_of judged visited
segment out row (simple a r b) n y f m l h =
    rw one-add (follow-row out row m n (omega arith) ∙ rw (stands_one row n (record { subject = a; relation = r; object = b; holds = y; fails = f }) h))
segment out row (negated t) n y f m l h = segment out row t n f y m l h ∙ when_not (judged out n t) _ _ Refused
segment out row (bracketed t) n y f m l h = segment out row t n y f m l h
segment out row (both t u) n y f m l h =
    let p = stands_parts row n (n + simple_count t) f y f t u h in
    rw (length-append, when-length, add_assoc)
    (segment out row t n (n + simple_count t) f (when (judged out n t) (length (visited out (n + simple_count t) u)) 0 (λ _. 0) + m) (omega arith) p.0
    ∙ after_both (follow out row) (judged out n t) (judged out (n + simple_count t) u) (length (visited out (n + simple_count t) u)) m (n + simple_count t) y f
    (segment out row u (n + simple_count t) y f m (omega arith) p.1))
segment out row (either t u) n y f m l h =
    let p = stands_parts row n y (n + simple_count t) y f t u h in
    rw (length-append, when-length, add_assoc)
    (segment out row t n y (n + simple_count t) (when (judged out n t) 0 (length (visited out (n + simple_count t) u)) (λ _. 0) + m) (omega arith) p.0
    ∙ after_either (follow out row) (judged out n t) (judged out (n + simple_count t) u) (length (visited out (n + simple_count t) u)) m (n + simple_count t) y f
    (segment out row u (n + simple_count t) y f m (omega arith) p.1))

-- The rows reached, in the same way: those of the tree that judging visits, and then those reached from the exit.
pub reached-row : (out : Outcomes) (row : ℕ → PlanRow) (m k : ℕ) → k < on_false →
    reached out row (suc m) k
    ≡ visit k (row k).subject (row k).relation (row k).object
    ∷ when (at k (out (row k).subject (row k).relation (row k).object)) (reached out row m (row k).holds) (reached out row m (row k).fails) (λ _. [])
unfolding reached
reached-row out row m k l = rw (ne_eqb k on_true (λ e. omega arith), ne_eqb k on_false (λ e. omega arith))

pub reached_true : (out : Outcomes) (row : ℕ → PlanRow) (m : ℕ) → reached out row m on_true ≡ []
unfolding reached
reached_true out row zero = refl
reached_true out row (suc m) = refl

pub reached_false : (out : Outcomes) (row : ℕ → PlanRow) (m : ℕ) → reached out row m on_false ≡ []
unfolding reached
reached_false out row zero = refl
reached_false out row (suc m) = refl

-- so many rows at most are reached, of any plan
pub reached_le : (out : Outcomes) (row : ℕ → PlanRow) (m k : ℕ) → length (reached out row m k) ≤ m
unfolding reached when
reached_le out row zero k = omega arith
reached_le out row (suc m) k =
    go (eqb k on_true) (eqb k on_false) (at k (out (row k).subject (row k).relation (row k).object))
    (reached_le out row m (row k).holds) (reached_le out row m (row k).fails)
  where
    go : (a b : Bool) (v : Verdict) → length (reached out row m (row k).holds) ≤ m → length (reached out row m (row k).fails) ≤ m →
        length (
        cond a []
        (cond b []
        (visit k (row k).subject (row k).relation (row k).object
        ∷ when v (reached out row m (row k).holds) (reached out row m (row k).fails) (λ _. [])))
        ) ≤ suc m
    go true b v p q = omega arith
    go false true v p q = omega arith
    go false false True p q = omega arith
    go false false False p q = omega arith
    go false false (Refused refusal) p q = omega arith

module _ (G : ℕ → ℕ → List Visit) where
  visits_both : (v w : Verdict) (xs : List Visit) (j m k y f : ℕ) →
      G (j + m) k ≡ xs ++ when w (G m y) (G m f) (λ _. []) →
      when v (G (when v j 0 (λ _. 0) + m) k) (G (when v j 0 (λ _. 0) + m) f) (λ _. [])
      ≡ when v xs [] (λ _. []) ++ when (when v w False Refused) (G m y) (G m f) (λ _. [])
  unfolding when
  visits_both True w xs j m k y f h = h
  visits_both False w xs j m k y f h = rw zero-add
  visits_both (Refused refusal) w xs j m k y f h = refl

  visits_either : (v w : Verdict) (xs : List Visit) (j m k y f : ℕ) →
      G (j + m) k ≡ xs ++ when w (G m y) (G m f) (λ _. []) →
      when v (G (when v 0 j (λ _. 0) + m) y) (G (when v 0 j (λ _. 0) + m) k) (λ _. [])
      ≡ when v [] xs (λ _. []) ++ when (when v True w Refused) (G m y) (G m f) (λ _. [])
  unfolding when
  visits_either True w xs j m k y f h = rw zero-add
  visits_either False w xs j m k y f h = h
  visits_either (Refused refusal) w xs j m k y f h = refl

pub segment_visits : (out : Outcomes) (row : ℕ → PlanRow) (t : Tree) (n y f m : ℕ) → n + simple_count t ≤ on_false → Stands row n (rows_of n y f t) →
    reached out row (length (visited out n t) + m) n ≡ visited out n t ++ when (judged out n t) (reached out row m y) (reached out row m f) (λ _. [])
unfolding simple_count rows_of judged visited
segment_visits out row (simple a r b) n y f m l h =
    rw one-add (reached-row out row m n (omega arith) ∙ rw (stands_one row n (record { subject = a; relation = r; object = b; holds = y; fails = f }) h))
segment_visits out row (negated t) n y f m l h =
    segment_visits out row t n f y m l h ∙ ap (λ w. visited out n t ++ w) (when_not (judged out n t) _ _ (λ _. []))
segment_visits out row (bracketed t) n y f m l h = segment_visits out row t n y f m l h
segment_visits out row (both t u) n y f m l h =
    let p = stands_parts row n (n + simple_count t) f y f t u h in
    rw (length-append, when-length, add_assoc, append_assoc)
    (segment_visits out row t n (n + simple_count t) f (when (judged out n t) (length (visited out (n + simple_count t) u)) 0 (λ _. 0) + m) (omega arith) p.0
    ∙ ap (λ w. visited out n t ++ w)
    (visits_both (reached out row) (judged out n t) (judged out (n + simple_count t) u) (visited out (n + simple_count t) u) (length (visited out (n + simple_count t) u)) m (n + simple_count t) y f
    (segment_visits out row u (n + simple_count t) y f m (omega arith) p.1)))
segment_visits out row (either t u) n y f m l h =
    let p = stands_parts row n y (n + simple_count t) y f t u h in
    rw (length-append, when-length, add_assoc, append_assoc)
    (segment_visits out row t n y (n + simple_count t) (when (judged out n t) 0 (length (visited out (n + simple_count t) u)) (λ _. 0) + m) (omega arith) p.0
    ∙ ap (λ w. visited out n t ++ w)
    (visits_either (reached out row) (judged out n t) (judged out (n + simple_count t) u) (visited out (n + simple_count t) u) (length (visited out (n + simple_count t) u)) m (n + simple_count t) y f
    (segment_visits out row u (n + simple_count t) y f m (omega arith) p.1)))

when_none : (v : Verdict) → ◌≡◌ {A = List Visit} (when v [] [] (λ _. [])) []
unfolding when
when_none True = refl
when_none False = refl
when_none (Refused refusal) = refl

pub plan_visits : (out : Outcomes) (row : ℕ → PlanRow) (t : Tree) (m : ℕ) → simple_count t ≤ on_false → simple_count t ≤ m → Stands row 0 (rows_of 0 on_true on_false t) →
    reached out row m 0 ≡ visited out 0 t
plan_visits out row t m l g h =
    let e : m ≡ length (visited out 0 t) + (m - length (visited out 0 t)) = omega (arith, visited_le out 0 t) in
    ap (λ w. reached out row w 0) e
    ∙ segment_visits out row t 0 on_true on_false (m - length (visited out 0 t)) (omega arith) h
    ∙ rw (reached_true, reached_false, when_none, append-nil)

-- any plan that holds the rows of a tree from row 0 on, run through as many rows as the tree has or more
pub plan-runs : (out : Outcomes) (row : ℕ → PlanRow) (t : Tree) (m : ℕ) → simple_count t ≤ on_false → simple_count t ≤ m → Stands row 0 (rows_of 0 on_true on_false t) →
    follow out row m 0 ≡ judged out 0 t
plan-runs out row t m l g h =
    let e : m ≡ length (visited out 0 t) + (m - length (visited out 0 t)) = omega (arith, visited_le out 0 t) in
    ap (λ w. follow out row w 0) e
    ∙ segment out row t 0 on_true on_false (m - length (visited out 0 t)) (omega arith) h
    ∙ rw (follow_true, follow_false) (sym (when-same (judged out 0 t)))

-- the numbers of rows hold the rows
pub flat-length : (rows : List PlanRow) → length (flat rows) ≡ length rows * 5
unfolding flat
flat-length [] = refl
flat-length (r ∷ rows) = omega (arith, flat-length rows)

pub row_of-flat : (rows : List PlanRow) (k : ℕ) → k < length rows → plan_row (flat rows) k ≡ get_or rows k blank
unfolding plan_row flat
row_of-flat [] k l = absurd (omega arith)
row_of-flat (r ∷ rows) zero l = refl
row_of-flat (r ∷ rows) (suc k) l = next ∙ row_of-flat rows k (omega arith)
  where
    past : (x y : ℕ) → x ≡ suc (suc (suc (suc (suc y)))) → get_or (flat (r ∷ rows)) x 0 ≡ get_or (flat rows) y 0
    past x y e = rw e

    next : plan_row (flat (r ∷ rows)) (suc k) ≡ plan_row (flat rows) k
    next =
        λ i.
        record {
          subject = past (suc k * 5) (k * 5) (omega arith) i;
          relation = past (suc k * 5 + 1) (k * 5 + 1) (omega arith) i;
          object = past (suc k * 5 + 2) (k * 5 + 2) (omega arith) i;
          holds = past (suc k * 5 + 3) (k * 5 + 3) (omega arith) i;
          fails = past (suc k * 5 + 4) (k * 5 + 4) (omega arith) i;
        }

pub planned-length : (t : Tree) → length (planned t) ≡ simple_count t * 5
unfolding planned
planned-length t = flat-length (rows_of 0 on_true on_false t) ∙ ap (λ w. w * 5) (rows-count 0 on_true on_false t)

pub planned-rows : (t : Tree) → plan_rows (planned t) ≡ simple_count t
planned-rows t = omega (arith, planned-length t)

pub planned_stands : (t : Tree) → Stands (plan_row (planned t)) 0 (rows_of 0 on_true on_false t)
unfolding planned
planned_stands t = record { stands = λ k l. rw zero-add (row_of-flat (rows_of 0 on_true on_false t) k l) }

-- whichever way a row was reached, the run goes on as the judging does
pub run_is_judging : (out : Outcomes) (t : Tree) → simple_count t < 65534 → run out (planned t) ≡ judged out 0 t
unfolding run
run_is_judging out t l = plan-runs out (plan_row (planned t)) t (plan_rows (planned t)) (omega arith) (omega (arith, planned-length t)) (planned_stands t)

-- Document 02, i): the rows that the run of a tree's plan reaches are the simple conditions that judging visits, number for number.
pub run_visits_lem : (out : Outcomes) (t : Tree) → simple_count t < 65534 → run_visits out (planned t) ≡ visited out 0 t
unfolding run_visits
run_visits_lem out t l = plan_visits out (plan_row (planned t)) t (plan_rows (planned t)) (omega arith) (omega (arith, planned-length t)) (planned_stands t)

-- "at most the plan's", of any numbers
pub run-count : (out : Outcomes) (plan : List ℕ) → length (run_visits out plan) ≤ plan_rows plan
unfolding run_visits
run-count out plan = reached_le out (plan_row plan) (plan_rows plan) 0
