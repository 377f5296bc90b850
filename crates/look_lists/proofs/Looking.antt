-- What the calls answer, one law for each of their returns.
use mathlib.Core.Path.{◌≡◌, refl, sym, subst, ap, ap₂, ◌∙◌}
use mathlib.Core.Bool.{Bool, true, false, cond, ◌&&◌, ◌||◌}
use mathlib.Core.List.{List, [], ◌∷◌, ◌++◌, append_assoc}
use Prim.Native.Nat.{ℕ, zero, suc, ◌+◌, ◌*◌, ◌%◌, ◌<◌, ◌≤◌}
use native.Mathlib.Omega.{arith}
use native.Mathlib.Decide.{ℕ_discrete}
use native.Mathlib.Nat.{zero-add, add_assoc}
use lib.ListN.{length, get_or, set, take, replicate, length-set, length-replicate, get_or-replicate}
use lib.Seq.{get_or-set_same, get_or-set_other}
use lib.Dec.{eqb, leb}
use borrow.Author.Tests.{eq-eqb, ne_eqb, leb-true}
use Rattle.items.specs.Items.{listed}
use Rattle.items.proofs.Listing.{listed_none, listed_more}
use Rattle.tables.specs.declared.Refusal.{Refusal}
use Rattle.tables.specs.declared.Refusal.TheVariants.{ItemTable}
use Rattle.tables.specs.Operands.{Lent, lend_names}
use Rattle.tables.specs.Refusals.{first_of, Check, Written}
use Rattle.tables.specs.Tables.{table_lines, record_check}
use Rattle.tables.proofs.Tests.{both as both_true}
use Rattle.tables.proofs.Lines.{test_sound, line_sound, line_refused, line_last, lines_before, lines_sound}
use Rattle.values.specs.Names.{lent_lines}
use Rattle.values.specs.Truth.{outcome}
use Rattle.values.proofs.Reading.{tables_sound}
use Rattle.tables.specs.Rows.{row_count}
use Rattle.typing.specs.Tests.{test_of}
use Rattle.grammar.specs.declared.PlanRow.{PlanRow}
use Rattle.grammar.specs.Grammar.{Tree, simple, negated, bracketed, both, either}
use Rattle.grammar.specs.Judging.{simple_count, Walk}
use Rattle.grammar.specs.Parser.{read}
use Rattle.grammar.specs.Plan.{on_true, on_false, plan_row, plan_rows, plan_check, rows_of, planned, run_visits, running}
use Rattle.grammar.proofs.Segment.{Stands, stands_one, stands_parts, planned_stands, planned-rows}
use Rattle.grammar.proofs.Sure.{sure}
use Rattle.grammar.proofs.Lent.{plan-lent}
use Rattle.rules.specs.Calls.{condition_lines, room_check, writes, Leaves, numbers_of, judge_walk, run_walk}
use Rattle.rules.specs.Footprint.{rows_asked, footprint}
use Rattle.rules.proofs.Passing.{after_lines_lem, both_sound, read_as, condition-passes, tables_pass}
use Rattle.rules.proofs.Answers.{plan-passes, judges_as, run_judges}
use Rattle.preparer.specs.Prepared.{Prepares}
use Rattle.runner.specs.Runs.{Runnable}
use Rattle.preparer.proofs.Ready.{ready}
use Rattle.walker.specs.Marks.{marked, marked_row, lent_names, AllMarkable, rows_at}
use Rattle.walker.proofs.Marking.{by_names, marked-length}
use Rattle.walker.proofs.Range.{markable}
use Rattle.look_lists.specs.Looked.{is_among, rising, looked_at, looked_at_plan, named_rows, named_items, judge_lines, run_lines, listing, looked_gives, looked_plan_gives, named_gives}
use Rattle.std.specs.Prelude.{Err, Ok, Result}

-- what the first rows list is the same, if each lists the same
listed_same : (f g : ℕ → List ℕ) (n : ℕ) → ((v : ℕ) → v < n → f v ≡ g v) → listed f n ≡ listed g n
unfolding listed
listed_same f g zero h = refl
listed_same f g (suc n) h = ap₂ (λ (xs ys : List ℕ). xs ++ ys) (listed_same f g n (λ v l. h v (omega arith))) (h n (omega arith))

-- a mark is set of the rows that are among those marked
mark_of : (marks rows : List ℕ) (v : ℕ) → v < length marks → get_or (marked marks rows) v 0 ≡ cond (is_among v rows) 1 (get_or marks v 0)
unfolding marked is_among
mark_of marks [] v l = refl
mark_of marks (row ∷ rows) v l = mark_of (set marks row 1) rows v (omega (arith, length-set marks row 1)) ∙ by (ℕ_discrete v row) (is_among v rows)
  where
    by : Dec (v ≡ row) → (among : Bool) → cond among 1 (get_or (set marks row 1) v 0) ≡ cond (eqb v row || among) 1 (get_or marks v 0)
    by (yes e) true = rw (eq-eqb v row e)
    by (yes e) false = rw (eq-eqb v row e) (ap (λ r. get_or (set marks r 1) v 0) (sym e) ∙ get_or-set_same marks v 1 0 l)
    by (no e) true = rw (ne_eqb v row e)
    by (no e) false = rw (ne_eqb v row e) (get_or-set_other marks row v 1 0 e)

-- the marked rows are the rising list, where none was marked before
pub marked-rising : (items marks rows : List ℕ) → row_count items ≤ length marks → ((v : ℕ) → v < length marks → get_or marks v 0 ≡ 0) →
    listed (marked_row (marked marks rows)) (row_count items) ≡ rising items rows
marked-rising items marks rows l zeros =
    listed_same (marked_row (marked marks rows)) (λ v. cond (is_among v rows) (v ∷ []) []) (row_count items) (λ v h. same v (omega arith))
  where
    by : (v m : ℕ) (among : Bool) → m ≡ cond among 1 0 → cond (eqb m 0) [] (v ∷ []) ≡ cond among (v ∷ []) []
    by v m true e = rw e
    by v m false e = rw e

    same : (v : ℕ) → v < length marks → marked_row (marked marks rows) v ≡ cond (is_among v rows) (v ∷ []) []
    same v h = by v (get_or (marked marks rows) v 0) (is_among v rows) (mark_of marks rows v h ∙ ap (cond (is_among v rows) 1) (zeros v h))

-- the rows of a tree, wherever they stand, name what the tree names
module _ (lent : Lent) (row : ℕ → PlanRow) where
  abbrev asked : ℕ → List ℕ
  asked k = rows_asked lent (test_of (row k).relation) (row k).subject (row k).object

  segment_named : (t : Tree) (n y f : ℕ) → Stands row n (rows_of n y f t) → listed asked (n + simple_count t) ≡ listed asked n ++ named_rows lent t
  unfolding simple_count rows_of named_rows
  segment_named (simple a r b) n y f h =
      listed_more asked n ∙ rw (stands_one row n (record { subject = a; relation = r; object = b; holds = y; fails = f }) h)
  segment_named (negated t) n y f h = segment_named t n f y h
  segment_named (bracketed t) n y f h = segment_named t n y f h
  segment_named (both t u) n y f h =
      let p = stands_parts row n (n + simple_count t) f y f t u h in
      ap (listed asked) (sym (add_assoc n (simple_count t) (simple_count u)))
      ∙ segment_named u (n + simple_count t) y f p.1
      ∙ ap (λ rows. rows ++ named_rows lent u) (segment_named t n (n + simple_count t) f p.0)
      ∙ append_assoc (listed asked n) (named_rows lent t) (named_rows lent u)
  segment_named (either t u) n y f h =
      let p = stands_parts row n y (n + simple_count t) y f t u h in
      ap (listed asked) (sym (add_assoc n (simple_count t) (simple_count u)))
      ∙ segment_named u (n + simple_count t) y f p.1
      ∙ ap (λ rows. rows ++ named_rows lent u) (segment_named t n y (n + simple_count t) p.0)
      ∙ append_assoc (listed asked n) (named_rows lent t) (named_rows lent u)

pub plan-named : (lent : Lent) (t : Tree) → listed (rows_at (lent_names lent.names) (planned t)) (plan_rows (planned t)) ≡ named_rows lent t
plan-named lent t =
    listed_same (rows_at (lent_names lent.names) (planned t)) (rows_at lent (planned t)) (plan_rows (planned t)) (λ k l. by_names lent (test_of (plan_row (planned t) k).relation) _ _)
    ∙ ap (listed (rows_at lent (planned t))) (planned-rows t ∙ sym (zero-add (simple_count t)))
    ∙ segment_named lent (plan_row (planned t)) t 0 on_true on_false (planned_stands t)
    ∙ ap (λ rows. rows ++ named_rows lent t) (listed_none (rows_at lent (planned t)))

-- the lines refuse
pub list_refused : (lines : List Check) (rows output : List ℕ) {refusal : Refusal} → first_of lines ≡ Err refusal → Leaves (listing lines rows output) (Err refusal) output
list_refused lines rows output e =
    rw (lines_before lines (room_check rows output ∷ []) ∙ line_refused (room_check rows output ∷ []) e) (record { answered = refl; left = refl })

-- or do not, and the room decides
pub list-given : (lines : List Check) (rows output : List ℕ) {last : List ℕ} {r : Written} → first_of lines ≡ Ok tt → Leaves (listing [] rows output) r last →
    Leaves (listing lines rows output) r last
list-given lines rows output e h = rw (after_lines_lem lines (room_check rows output ∷ []) e) h

pub few_items : (lent : Lent) → first_of (lent_lines lent) ≡ Ok tt → row_count lent.items ≤ 64
few_items lent e =
    let short = test_sound (eqb (length lent.items % 5) 0 && leb (length lent.items) 320) ItemTable (lines_sound (table_lines lent) (tables_sound lent e)).0 in
    omega (arith, leb-true (length lent.items) 320 (both_true (eqb (length lent.items % 5) 0) _ short).1)

pub few_runnable : {lent : Lent} {plan content : List ℕ} → Runnable lent plan content → row_count lent.items ≤ 64
few_runnable {lent} p = few_items lent p.tables

-- what is given of marks of which none was set before
module _ (items rows output : List ℕ) (l : row_count items ≤ 64) {marks : List ℕ} (m : marks ≡ marked (replicate 64 0) rows) where
  pub marks_long : length marks ≡ 64
  marks_long = ap length m ∙ marked-length (replicate 64 0) rows ∙ length-replicate {A = ℕ} 64 0

  pub marks-listed : {last : List ℕ} {r : Written} →
      Leaves (writes (room_check (listed (marked_row marks) (row_count items)) output) (listed (marked_row marks) (row_count items)) output) r last →
      Leaves (listing [] (rising items rows) output) r last
  marks-listed h =
      let long = length-replicate {A = ℕ} 64 0 in
      let is = ap (λ ms. listed (marked_row ms) (row_count items)) m
      ∙ marked-rising items (replicate 64 0) rows (omega arith) (λ v k. get_or-replicate 64 v 0 0 (omega arith)) in
      rw line_last (rw is at h)

-- the lines of a run, each in its turn
module _ (items literals bytes names plan content : List ℕ) where
  abbrev lent : Lent
  lent = lend_names items literals bytes names

  abbrev left : List Check
  left = plan_check lent plan ∷ record_check lent content ∷ []

  pub tables_line : {refusal : Refusal} → first_of (lent_lines lent) ≡ Err refusal → Err refusal ≡ first_of (run_lines lent plan content)
  tables_line e = sym (lines_before (lent_lines lent) left ∙ line_refused left e)

  module _ (t : first_of (lent_lines lent) ≡ Ok tt) {line : Check} (q : line ≡ plan_check (lend_names items literals [] names) plan) where
    plan_is : plan_check lent plan ≡ line
    plan_is = plan-lent false items literals bytes names plan ∙ sym q

    pub plan_line_lem : {refusal : Refusal} → line ≡ Err refusal → Err refusal ≡ first_of (run_lines lent plan content)
    plan_line_lem e = sym (after_lines_lem (lent_lines lent) left t ∙ line_refused _ (plan_is ∙ e))

    pub record_line : line ≡ Ok tt → record_check lent content ≡ first_of (run_lines lent plan content)
    record_line e = sym (after_lines_lem (lent_lines lent) left t ∙ line_sound _ (plan_is ∙ e) ∙ line_last _)

-- no line of a run refuses: its plan can be run, and what it reaches is what the definition walks
module _ (lent : Lent) (plan content : List ℕ) (e : first_of (run_lines lent plan content) ≡ Ok tt) where
  pub run_ready : Runnable lent plan content
  run_ready =
      let (t, o) = both_sound (lent_lines lent) (plan_check lent plan ∷ record_check lent content ∷ []) e in
      let l = lines_sound _ o in
      record { tables = t; sound = l.0; holds = l.1.0 }

  pub run-listed : (switches : ℕ) (output : List ℕ) {last : List ℕ} {r : Written} →
      Leaves (listing [] (rising lent.items (footprint lent (run_visits (outcome lent content switches) plan))) output) r last →
      Leaves (looked_plan_gives lent plan content switches output) r last
  unfolding looked_plan_gives run_walk
  run-listed switches output h = list-given (run_lines lent plan content) (looked_at_plan lent plan content switches) output e (rw e h)

pub run_refused : (lent : Lent) (plan content : List ℕ) (switches : ℕ) (output : List ℕ) {refusal : Refusal} → first_of (run_lines lent plan content) ≡ Err refusal →
    Leaves (looked_plan_gives lent plan content switches output) (Err refusal) output
unfolding looked_plan_gives
run_refused lent plan content switches output e = list_refused (run_lines lent plan content) (looked_at_plan lent plan content switches) output e

-- a condition that is refused before it is judged
module _ {lent : Lent} {tokens : List ℕ} {r : Result ℕ Refusal} {before after : List ℕ} (p : Prepares lent tokens r before after) {refusal : Refusal} (e : r ≡ Err refusal) where
  lines_refuse : first_of (condition_lines lent tokens) ≡ Err refusal
  lines_refuse = (rw e at p.readied).0

  pub named_refused : (output : List ℕ) → Leaves (named_gives lent tokens output) (Err refusal) output
  unfolding named_gives
  named_refused output = list_refused (condition_lines lent tokens) (numbers_of (named_items lent) (read tokens)) output lines_refuse

  pub looked_refused : (content : List ℕ) (switches : ℕ) (output : List ℕ) → Leaves (looked_gives lent tokens content switches output) (Err refusal) output
  unfolding looked_gives
  looked_refused content switches output =
      list_refused (judge_lines lent tokens content) (looked_at lent tokens content switches) output
      (lines_before (condition_lines lent tokens) (record_check lent content ∷ []) ∙ line_refused _ lines_refuse)

-- one that is not
module _ {lent : Lent} {tokens : List ℕ} {r : Result ℕ Refusal} {before after : List ℕ} (p : Prepares lent tokens r before after) {count : ℕ} (e : r ≡ Ok count) where
  pub rows_markable : AllMarkable lent.names 64 (take (count * 5) after)
  rows_markable =
      let y = ready p e in
      rw y.rows (λ k l. markable lent (tables_pass y.passes) (few_items lent (tables_pass y.passes)) _ _ _ (sure lent _ (plan-passes y.passes) k l).shape)

  pub few_named : row_count lent.items ≤ 64
  few_named = few_items lent (tables_pass (ready p e).passes)

  pub named-listed : (output : List ℕ) {last : List ℕ} {w : Written} →
      Leaves (listing [] (rising lent.items (listed (rows_at (lent_names lent.names) (take (count * 5) after)) (plan_rows (take (count * 5) after)))) output) w last →
      Leaves (named_gives lent tokens output) w last
  unfolding named_gives
  named-listed output h =
      let y = ready p e in
      list-given (condition_lines lent tokens) (numbers_of (named_items lent) (read tokens)) output (condition-passes y.passes)
      (rw (read_as y.passes) (rw (y.rows, plan-named lent y.tree) at h))

  module _ (content : List ℕ) (switches : ℕ) (output : List ℕ) where
    record_is : first_of (judge_lines lent tokens content) ≡ record_check lent content
    record_is = after_lines_lem (condition_lines lent tokens) (record_check lent content ∷ []) (condition-passes (ready p e).passes) ∙ line_last _

    pub looked_record_refused : {refusal : Refusal} → record_check lent content ≡ Err refusal → Leaves (looked_gives lent tokens content switches output) (Err refusal) output
    unfolding looked_gives
    looked_record_refused h = list_refused (judge_lines lent tokens content) (looked_at lent tokens content switches) output (record_is ∙ h)

    pub looked_listed : record_check lent content ≡ Ok tt → {last : List ℕ} {w : Written} →
        Leaves (listing [] (rising lent.items (footprint lent (run_visits (outcome lent content switches) (take (count * 5) after)))) output) w last →
        Leaves (looked_gives lent tokens content switches output) w last
    unfolding looked_gives
    looked_listed c {last} {w} h =
        let y = ready p e in
        let walked : running (outcome lent content switches) (take (count * 5) after) ≡ judge_walk lent tokens content switches =
        ap (running (outcome lent content switches)) y.rows ∙ run_judges y.passes content switches ∙ sym (judges_as y.passes content switches ∙ rw c) in
        list-given (judge_lines lent tokens content) (looked_at lent tokens content switches) output (record_is ∙ c)
        (subst (λ (z : Walk). Leaves (listing [] (rising lent.items (footprint lent z.visits)) output) w last) walked h)
