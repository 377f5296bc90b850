-- What the lists mean: they hold the footprint whole, and nothing else of a record can change an answer.
use mathlib.Core.Path.{◌≡◌, refl, sym, ap, ◌∙◌}
use mathlib.Core.Bool.{Bool, true, false, cond, ◌||◌, true≢false}
use mathlib.Core.List.Memᴰ
use mathlib.Core.List.{List, [], ◌∷◌, ◌++◌, append-nil, append_assoc, Memᴰ}
use mathlib.Core.Logic.{⊎_elim, ◌⊎◌}
use Prim.Native.Nat.{ℕ, zero, suc, ◌+◌, ◌<◌, ◌≤◌}
use native.Mathlib.Omega.{arith}
use native.Mathlib.Decide.{dec_lt}
use lib.Dec.{eqb}
use lib.ListN.{length, get_or, length-append, get_or-append}
use lib.Seq.{get_or_at}
use borrow.Author.Tests.{eq-eqb, eqb-true}
use Rattle.tables.proofs.Tests.{either as one_of}
use Rattle.tables.specs.declared.Outcome.{Outcome}
use Rattle.tables.specs.declared.Verdict.{Verdict}
use Rattle.tables.specs.declared.Verdict.TheVariants.{True, False, Refused as Stops}
use Rattle.tables.specs.Operands.{Lent}
use Rattle.tables.specs.Refusals.{first_of, Check}
use Rattle.tables.specs.Rows.{row_count}
use Rattle.tables.specs.Tables.{record_check}
use Rattle.tables.proofs.Lines.{lines_sound}
use Rattle.typing.specs.Tests.{test_of}
use Rattle.items.specs.Items.{listed}
use Rattle.values.specs.Names.{lent_lines}
use Rattle.values.specs.Truth.{outcome}
use Rattle.grammar.specs.Grammar.{Tree, simple, negated, bracketed, both, either}
use Rattle.grammar.specs.Parser.{Reading, accepted, read}
use Rattle.grammar.specs.Judging.{Outcomes, simple_count, when, judged, Visit, visit, visited, Walk}
use Rattle.grammar.specs.Plan.{on_true, on_false, plan_row, plan_rows, plan_check, planned, reached, run_visits, running}
use Rattle.grammar.proofs.Sure.{some-rows}
use Rattle.grammar.proofs.Segment.{run_visits_lem}
use Rattle.rules.specs.Calls.{condition_lines, answers, tree_answer, judge_walk, run_walk}
use Rattle.rules.specs.Footprint.{rows_of_visit, footprint}
use Rattle.rules.proofs.Passing.{passed, both_sound, read_as, tables_pass}
use Rattle.rules.proofs.Answers.{few_leaves, plan-passes}
use Rattle.rules.proofs.Footprint.{looks_at_its_items}
use Rattle.runner.specs.Runs.{Runnable}
use Rattle.runner.proofs.Running.{certain}
use Rattle.walker.specs.Marks.{AllBelow, next}
use Rattle.walker.proofs.Marking.{reached-next, reached_none, goes_later}
use Rattle.walker.proofs.Range.{below}
use Rattle.look_lists.specs.Looked.{is_among, rising, named_rows}
use Rattle.look_lists.specs.Theorems.{LookedAtSuffices, SameMembers, ListsAll, Rises, ListsRise}
use Rattle.std.specs.Prelude.{Err, Ok}

-- a member of a list, as a test
pub among_member : (v : ℕ) (rows : List ℕ) → is_among v rows ≡ true → Memᴰ v rows
unfolding is_among
among_member v [] e = absurd (true≢false (sym e))
among_member v (row ∷ rows) e =
    ⊎_elim (λ h. Memᴰ.head (eqb-true v row h)) (λ h. Memᴰ.tail (among_member v rows h)) (one_of (eqb v row) (is_among v rows) e)

pub member_among : (v : ℕ) (rows : List ℕ) → Memᴰ v rows → is_among v rows ≡ true
unfolding is_among
member_among v [] m = absurd (Memᴰ.not-nil m)
member_among v (row ∷ rows) m =
    ⊎_elim (λ e. rw (eq-eqb v row e)) (λ h. let t = member_among v rows h in rw t (by (eqb v row))) (Memᴰ.cases_cons m)
  where
    by : (b : Bool) → (b || true) ≡ true
    by true = refl
    by false = refl

-- the rows below n that pass a test
module _ (test : ℕ → Bool) where
  abbrev entry : ℕ → List ℕ
  entry v = cond (test v) (v ∷ []) []

  filtered_all : (n v : ℕ) → v < n → test v ≡ true → Memᴰ v (listed entry n)
  unfolding listed
  filtered_all zero v l e = absurd (omega arith)
  filtered_all (suc n) v l e = by (dec_lt v n) (λ h. filtered_all n v h e)
    where
      by : Dec (v < n) → (v < n → Memᴰ v (listed entry n)) → Memᴰ v (listed entry n ++ entry n)
      by (yes h) rest = Memᴰ.append_left _ (rest h)
      by (no h) rest = let q : v ≡ n = omega arith in Memᴰ.append_right (listed entry n) (rw (← q, e) (Memᴰ.head refl))

  one_entry : (v n : ℕ) → Memᴰ v (entry n) → (v ≡ n) × (test n ≡ true)
  one_entry v n = by (test n) refl
    where
      by : (b : Bool) → test n ≡ b → Memᴰ v (cond b (n ∷ []) []) → (v ≡ n) × (test n ≡ true)
      by true e m = (Memᴰ.eq_of_singleton m, e)
      by false e m = absurd (Memᴰ.not-nil m)

  filtered_only : (n v : ℕ) → Memᴰ v (listed entry n) → (v < n) × (test v ≡ true)
  unfolding listed
  filtered_only zero v m = absurd (Memᴰ.not-nil m)
  filtered_only (suc n) v m =
      ⊎_elim (λ h. let p = filtered_only n v h in (omega (arith, p.0), p.1)) (λ h. let p = one_entry v n h in (omega (arith, p.0), rw p.0 p.1))
      (Memᴰ.append_cases (listed entry n) m)

  -- they rise
  abbrev Low : ℕ → List ℕ → Type 0
  Low n list = (i : ℕ) → i < length list → get_or list i 0 < n

  one_more : (n : ℕ) (list : List ℕ) → Rises list × Low n list → Rises (list ++ n ∷ []) × Low (suc n) (list ++ n ∷ [])
  one_more n list h = (rises, low)
    where
      long : length (list ++ n ∷ []) ≡ length list + 1
      long = length-append list (n ∷ [])

      before : (i : ℕ) → i < length list → get_or (list ++ n ∷ []) i 0 ≡ get_or list i 0
      before i l = get_or-append list (n ∷ []) 0 i l

      last : (i : ℕ) → i ≡ length list → get_or (list ++ n ∷ []) i 0 ≡ n
      last i e = get_or_at list n [] 0 i (sym e)

      rises : Rises (list ++ n ∷ [])
      rises i l = by (dec_lt (suc i) (length list))
        where
          by : Dec (suc i < length list) → get_or (list ++ n ∷ []) i 0 < get_or (list ++ n ∷ []) (suc i) 0
          by (yes k) = omega (arith, before i (omega arith), before (suc i) k, h.0 i k)
          by (no k) = omega (arith, long, before i (omega (arith, long)), last (suc i) (omega (arith, long)), h.1 i (omega (arith, long)))

      low : Low (suc n) (list ++ n ∷ [])
      low i l = by (dec_lt i (length list))
        where
          by : Dec (i < length list) → get_or (list ++ n ∷ []) i 0 < suc n
          by (yes k) = omega (arith, before i k, h.1 i k)
          by (no k) = omega (arith, last i (omega (arith, long)))

  filtered_rises : (n : ℕ) → Rises (listed entry n) × Low n (listed entry n)
  unfolding listed
  filtered_rises zero = (λ i l. absurd (omega arith), λ i l. absurd (omega arith))
  filtered_rises (suc n) = by (test n) (filtered_rises n)
    where
      by : (b : Bool) → Rises (listed entry n) × Low n (listed entry n) →
          Rises (listed entry n ++ cond b (n ∷ []) []) × Low (suc n) (listed entry n ++ cond b (n ∷ []) [])
      by true h = one_more n (listed entry n) h
      by false h = rw append-nil (h.0, λ i l. omega (arith, h.1 i l))

pub lists_rise : ListsRise
lists_rise items rows = (filtered_rises (λ v. is_among v rows) (row_count items)).0

-- rows of the table: the list is they
pub all_listed : (items rows : List ℕ) → AllBelow (row_count items) rows → SameMembers (rising items rows) rows
all_listed items rows h =
    record {
      all = λ v m. filtered_all (λ v. is_among v rows) (row_count items) v (h v m) (member_among v rows m);
      only = λ v m. among_member v rows (filtered_only (λ v. is_among v rows) (row_count items) v m).1;
    }

-- the footprint of some visits and of others after them
footprint-append : (lent : Lent) (visits more : List Visit) → footprint lent (visits ++ more) ≡ footprint lent visits ++ footprint lent more
unfolding footprint
footprint-append lent [] more = refl
footprint-append lent (v ∷ visits) more =
    ap (λ rows. rows_of_visit lent v ++ rows) (footprint-append lent visits more) ∙ sym (append_assoc (rows_of_visit lent v) (footprint lent visits) (footprint lent more))

not_in_none : (lent : Lent) {row : ℕ} → Memᴰ row (footprint lent []) → ⊥
unfolding footprint
not_in_none lent m = Memᴰ.not-nil m

-- a row of the footprint is of the first visit or of the others
first : (lent : Lent) (v : Visit) (visits : List Visit) {row : ℕ} → Memᴰ row (footprint lent (v ∷ visits)) →
    Memᴰ row (rows_of_visit lent v) ⊎ Memᴰ row (footprint lent visits)
unfolding footprint
first lent v visits m = Memᴰ.append_cases (rows_of_visit lent v) m

-- the items of the rows that a run reaches are in the table
module _ (lent : Lent) (plan content : List ℕ) (p : Runnable lent plan content) (out : Outcomes) where
  reached-below : (m k : ℕ) → k ≤ on_true → (k < on_false → k < plan_rows plan) → AllBelow (row_count lent.items) (footprint lent (reached out (plan_row plan) m k))
  unfolding reached
  reached-below zero k top inside = λ row h. absurd (not_in_none lent h)
  reached-below (suc m) k top inside = by (dec_lt k on_false) (λ o l. let t = goes_later lent plan content p out [] k o (inside l) in reached-below m (next (plan_row plan k) o) t.top t.inside)
    where
      by : Dec (k < on_false) → ((o : Outcome) → k < on_false → AllBelow (row_count lent.items) (footprint lent (reached out (plan_row plan) m (next (plan_row plan k) o)))) →
          AllBelow (row_count lent.items) (footprint lent (reached out (plan_row plan) (suc m) k))
      by (yes l) rest =
          λ row h.
          let r = plan_row plan k in
          let m = rw (reached-next out (plan_row plan) m k l) at h in
          ⊎_elim (below lent p.tables (test_of r.relation) r.subject r.object (certain lent plan content p k (inside l)).shape row)
          (rest (out r.subject r.relation r.object) l row) (first lent (visit k r.subject r.relation r.object) _ m)
      by (no l) rest = λ row h. absurd (not_in_none lent (rw (reached_none out (plan_row plan) (suc m) k (omega arith) top) at h))

-- what a walk comes to is in the table: where a line refuses, it comes to nothing
answers-below : (lent : Lent) (line : Check) (w : Walk) → (line ≡ Ok tt → AllBelow (row_count lent.items) (footprint lent w.visits)) →
    AllBelow (row_count lent.items) (footprint lent (answers line w).visits)
answers-below lent (Ok _) w h = h refl
answers-below lent (Err refusal) w h = λ row m. absurd (not_in_none lent m)

run-below : (lent : Lent) (plan content : List ℕ) (switches : ℕ) → AllBelow (row_count lent.items) (footprint lent (run_walk lent plan content switches).visits)
unfolding run_walk run_visits
run-below lent plan content switches =
    answers-below lent (first_of (lent_lines lent ++ plan_check lent plan ∷ record_check lent content ∷ [])) (running (outcome lent content switches) plan)
    (λ e.
    let (t, o) = both_sound (lent_lines lent) (plan_check lent plan ∷ record_check lent content ∷ []) e in
    let l = lines_sound _ o in
    let s = some-rows lent plan l.0 in
    reached-below lent plan content (record { tables = t; sound = l.0; holds = l.1.0 }) (outcome lent content switches) (plan_rows plan) 0 (omega arith) (λ _. s.1))

judge_below : (lent : Lent) (tokens content : List ℕ) (switches : ℕ) →
    AllBelow (row_count lent.items) (footprint lent (judge_walk lent tokens content switches).visits)
unfolding judge_walk run_visits
judge_below lent tokens content switches =
    answers-below lent (first_of (condition_lines lent tokens ++ record_check lent content ∷ [])) (tree_answer lent content switches (read tokens))
    (λ e.
    let (c, r) = both_sound (condition_lines lent tokens) (record_check lent content ∷ []) e in
    let (t, p) = passed lent tokens c in
    let sound = plan-passes p in
    let s = some-rows lent (planned t) sound in
    rw (read_as p, ← run_visits_lem (outcome lent content switches) t (omega (arith, few_leaves p)))
    (reached-below lent (planned t) content (record { tables = tables_pass p; sound = sound; holds = (lines_sound _ r).0 }) (outcome lent content switches)
    (plan_rows (planned t)) 0 (omega arith) (λ _. s.1)))

pub lists_all : (lent : Lent) (content : List ℕ) (switches : ℕ) → ListsAll lent content switches
lists_all lent content switches =
    record {
      judge = λ tokens. all_listed lent.items _ (judge_below lent tokens content switches);
      run = λ plan. all_listed lent.items _ (run-below lent plan content switches);
    }

-- what judging comes to is named
module _ (lent : Lent) (out : Outcomes) where
  visited-named : (n : ℕ) (t : Tree) (row : ℕ) → Memᴰ row (footprint lent (visited out n t)) → Memᴰ row (named_rows lent t)
  unfolding visited named_rows when
  visited-named n (simple a r b) row m = ⊎_elim (λ h. h) (λ h. absurd (not_in_none lent h)) (first lent (visit n a r b) [] m)
  visited-named n (negated t) row m = visited-named n t row m
  visited-named n (bracketed t) row m = visited-named n t row m
  visited-named n (both t u) row m =
      ⊎_elim (λ h. Memᴰ.append_left _ (visited-named n t row h)) (λ h. Memᴰ.append_right (named_rows lent t) (visited-named (n + simple_count t) u row (second (judged out n t) h)))
      (Memᴰ.append_cases (footprint lent (visited out n t)) (rw footprint-append at m))
    where
      second : (v : Verdict) → Memᴰ row (footprint lent (when v (visited out (n + simple_count t) u) [] (λ _. []))) → Memᴰ row (footprint lent (visited out (n + simple_count t) u))
      second True h = h
      second False h = absurd (not_in_none lent h)
      second (Stops refusal) h = absurd (not_in_none lent h)
  visited-named n (either t u) row m =
      ⊎_elim (λ h. Memᴰ.append_left _ (visited-named n t row h)) (λ h. Memᴰ.append_right (named_rows lent t) (visited-named (n + simple_count t) u row (second (judged out n t) h)))
      (Memᴰ.append_cases (footprint lent (visited out n t)) (rw footprint-append at m))
    where
      second : (v : Verdict) → Memᴰ row (footprint lent (when v [] (visited out (n + simple_count t) u) (λ _. []))) → Memᴰ row (footprint lent (visited out (n + simple_count t) u))
      second True h = absurd (not_in_none lent h)
      second False h = h
      second (Stops refusal) h = absurd (not_in_none lent h)

  answers-named : (line : Check) (w : Walk) (rows : List ℕ) (row : ℕ) → (Memᴰ row (footprint lent w.visits) → Memᴰ row rows) →
      Memᴰ row (footprint lent (answers line w).visits) → Memᴰ row rows
  answers-named (Ok _) w rows row f m = f m
  answers-named (Err refusal) w rows row f m = absurd (not_in_none lent m)

judge_named : (lent : Lent) (tokens content : List ℕ) (switches : ℕ) (t : Tree) → read tokens ≡ accepted t → (row : ℕ) →
    Memᴰ row (footprint lent (judge_walk lent tokens content switches).visits) → Memᴰ row (named_rows lent t)
unfolding judge_walk
judge_named lent tokens content switches t e row =
    answers-named lent (outcome lent content switches) (first_of (condition_lines lent tokens ++ record_check lent content ∷ []))
    (tree_answer lent content switches (read tokens)) (named_rows lent t) row (by (read tokens) e)
  where
    by : (r : Reading) → r ≡ accepted t → Memᴰ row (footprint lent (tree_answer lent content switches r).visits) → Memᴰ row (named_rows lent t)
    by r q m = visited-named lent (outcome lent content switches) 0 t row (rw q at m)

pub looked_at_suffices : LookedAtSuffices
looked_at_suffices lent content other switches e =
    let looks = looks_at_its_items lent content other switches e in
    let lists = lists_all lent content switches in
    record {
      judge = λ tokens h. looks.judge tokens (λ row m. h row ((lists.judge tokens).all row m));
      run = λ plan h. looks.run plan (λ row m. h row ((lists.run plan).all row m));
      named = λ tokens t q h. looks.judge tokens (λ row m. h row
          (filtered_all (λ v. is_among v (named_rows lent t)) (row_count lent.items) row (judge_below lent tokens content switches row m)
          (member_among row (named_rows lent t) (judge_named lent tokens content switches t q row m))));
    }
