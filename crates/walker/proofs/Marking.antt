-- Laws of marks, of a loop over the rows of a plan that sets them, and of one that follows a run.
use mathlib.Core.Path.{◌≡◌, refl, sym, ap, ◌∙◌}
use mathlib.Core.Bool.{Bool, true, false, cond, not}
use mathlib.Core.List.Memᴰ
use mathlib.Core.List.{List, [], ◌∷◌, ◌++◌}
use Prim.Native.Nat.{ℕ, zero, suc, ◌+◌, ◌-◌, ◌*◌, ◌<◌, ◌≤◌}
use native.Mathlib.Omega.{arith}
use native.Mathlib.Decide.{ℕ_discrete}
use native.Mathlib.Nat.{add-zero}
use lib.ListN.{length, get_or, set, take, drop, length-set}
use lib.Dec.{eqb}
use native.Mathlib.Numerals.{add-one}
use Rattle.std.specs.List.{count_by}
use Rattle.std.proofs.lemmas.List.Sums.{count_by_more_yes, count_by_more_no}
use lib.Seq.{sets}
use borrow.Author.Tests.{ne_eqb}
use Rattle.tables.specs.declared.Outcome.{Outcome}
use Rattle.tables.specs.declared.Outcome.TheVariants.{True, False, Stopped}
use Rattle.tables.specs.declared.Refusal.{Refusal}
use Rattle.tables.specs.Operands.{Lent}
use Rattle.tables.specs.Names.{name_item}
use Rattle.tables.specs.Tokens.{is_item, is_name, index_of}
use Rattle.typing.specs.declared.Test.{Test}
use Rattle.typing.specs.declared.Test.TheVariants.{Alone, Relation, Class, Sign, Unknown}
use Rattle.typing.specs.Tests.{test_of}
use Rattle.grammar.specs.declared.PlanRow.{PlanRow}
use Rattle.grammar.specs.Judging.{Outcomes, when, at, visit}
use Rattle.grammar.specs.Plan.{on_true, on_false, plan_row, plan_rows, reached, run_visits}
use Rattle.grammar.proofs.Sure.{Later, some-rows}
use Rattle.grammar.proofs.Segment.{reached-row, reached_true, reached_false}
use Rattle.items.specs.Items.{listed}
use Rattle.items.specs.Lines.{room_check as room_by}
use Rattle.items.proofs.Facts.{room_fact}
use Rattle.items.proofs.Listing.{listed_none, listed_more, count_more}
use Rattle.rules.specs.Calls.{room_check, writes, Leaves}
use Rattle.rules.specs.Footprint.{items_among, rows_asked, footprint}
use Rattle.runner.specs.Runs.{Runnable}
use Rattle.runner.proofs.Running.{certain}
use Rattle.walker.specs.Marks.{marked, marked_row, lent_names, AllBelow, Markable, rows_at, next}
use Rattle.tables.specs.Refusals.{Check}
use Rattle.std.specs.Prelude.{Err, Ok}

pub marked_none : (marks : List ℕ) → marked marks [] ≡ marks
unfolding marked
marked_none marks = refl

pub marked_one : (marks : List ℕ) (row : ℕ) → marked marks (row ∷ []) ≡ set marks row 1
unfolding marked
marked_one marks row = refl

pub marked_append : (marks rows more : List ℕ) → marked marks (rows ++ more) ≡ marked (marked marks rows) more
unfolding marked
marked_append marks [] more = refl
marked_append marks (row ∷ rows) more = marked_append (set marks row 1) rows more

pub marked-length : (marks rows : List ℕ) → length (marked marks rows) ≡ length marks
unfolding marked
marked-length marks [] = refl
marked-length marks (row ∷ rows) = marked-length (set marks row 1) rows ∙ length-set marks row 1

-- what a row lists, by its mark
module _ (marks : List ℕ) (v : ℕ) where
  entry_none : get_or marks v 0 ≡ 0 → marked_row marks v ≡ []
  entry_none e = rw e

  entry_one : ¬ (get_or marks v 0 ≡ 0) → marked_row marks v ≡ v ∷ []
  entry_one n = rw (ne_eqb _ 0 n)

  pub none_listed : (list : List ℕ) (count : ℕ) → get_or marks v 0 ≡ 0 →
      (count ≡ count + length (marked_row marks v)) × (list ≡ sets list count (marked_row marks v))
  none_listed list count e = rw (entry_none e) (sym (add-zero count), refl)

  pub one_fits : (list : List ℕ) (count : ℕ) → ¬ (get_or marks v 0 ≡ 0) → count + length (marked_row marks v) ≤ length list → count < length list
  one_fits list count n h = let l = ap length (entry_one n) in omega arith

  pub one_listed : (list : List ℕ) (count : ℕ) → ¬ (get_or marks v 0 ≡ 0) →
      (count + 1 ≡ count + length (marked_row marks v)) × (set list count v ≡ sets list count (marked_row marks v))
  one_listed list count n = rw (entry_one n) (refl, refl)

  pub count_none : get_or marks v 0 ≡ 0 → length (listed (marked_row marks) (v + 1)) ≡ length (listed (marked_row marks) v)
  count_none e = let l = ap length (entry_none e) in omega (arith, count_more (marked_row marks) v)

  pub count_one : ¬ (get_or marks v 0 ≡ 0) → length (listed (marked_row marks) (v + 1)) ≡ length (listed (marked_row marks) v) + 1
  count_one n = let l = ap length (entry_one n) in omega (arith, count_more (marked_row marks) v)

-- as many of the first marks are set as rows are listed
pub count_marks : (marks : List ℕ) (n : ℕ) → n ≤ length marks → count_by (λ x. not (eqb x 0)) (take n marks) ≡ length (listed (marked_row marks) n)
count_marks marks zero h = sym (ap length (listed_none (marked_row marks)))
count_marks marks (suc n) h =
    let before : count_by (λ x. not (eqb x 0)) (take n marks) ≡ length (listed (marked_row marks) n) = count_marks marks n (omega arith) in
    let more : count_by (λ x. not (eqb x 0)) (take (n + 1) marks) ≡ length (listed (marked_row marks) (n + 1)) =
    elim (ℕ_discrete (get_or marks n 0) 0) [
      | yes e ↦ count_by_more_no _ marks n 0 (omega arith) (rw e) ∙ before ∙ sym (count_none marks n e)
      | no e ↦ count_by_more_yes _ marks n 0 (omega arith) (rw (ne_eqb _ 0 e)) ∙ ap (λ k. k + 1) before ∙ sym (count_one marks n e)
    ] in
    rw add-one at more

-- numbers that are given where the output has room for them
module _ (numbers output : List ℕ) {needed : ℕ} (n : needed ≡ length numbers) {line : Check} (r : line ≡ room_by needed (length output)) where
  is_room : line ≡ room_check numbers output
  is_room = r ∙ ap (λ k. room_by k (length output)) n

  pub given_refused : {refusal : Refusal} → line ≡ Err refusal → Leaves (writes (room_check numbers output) numbers output) (Err refusal) output
  given_refused e = rw (sym is_room ∙ e) (record { answered = refl; left = refl })

  pub given-fits : line ≡ Ok tt → length numbers ≤ length output
  given-fits e = room_fact (length numbers) (length output) (sym is_room ∙ e)

  pub given : line ≡ Ok tt → {last : List ℕ} → last ≡ numbers ++ drop (length numbers) output →
      Leaves (writes (room_check numbers output) numbers output) (Ok needed) last
  given e l = rw (sym is_room ∙ e) (record { answered = ap Ok n; left = l })

-- the items among operands, one after the other
module _ (marks : List ℕ) (x : ℕ) where
  pub operand_marked : is_item x ≡ true → set marks (index_of x) 1 ≡ marked marks (items_among (x ∷ []))
  unfolding items_among marked
  operand_marked e = rw e

  pub operand_unmarked : is_item x ≡ false → marks ≡ marked marks (items_among (x ∷ []))
  unfolding items_among marked
  operand_unmarked e = rw e

  pub operand_below : {n : ℕ} → AllBelow n (items_among (x ∷ [])) → is_item x ≡ true → index_of x < n
  unfolding items_among
  operand_below h e = h (index_of x) (rw e (Memᴰ.head refl))

  among_more : (operands : List ℕ) → items_among (x ∷ operands) ≡ items_among (x ∷ []) ++ items_among operands
  unfolding items_among
  among_more operands = go (is_item x)
    where
      go : (b : Bool) → cond b (index_of x ∷ items_among operands) (items_among operands) ≡ cond b (index_of x ∷ []) [] ++ items_among operands
      go true = refl
      go false = refl

  pub two_marked : (y : ℕ) → marked (marked marks (items_among (x ∷ []))) (items_among (y ∷ [])) ≡ marked marks (items_among (x ∷ y ∷ []))
  two_marked y = sym (ap (marked marks) (among_more (y ∷ [])) ∙ marked_append marks (items_among (x ∷ [])) (items_among (y ∷ [])))

-- of two operands, each
pub two_below : {n : ℕ} (x y : ℕ) → AllBelow n (items_among (x ∷ y ∷ [])) → AllBelow n (items_among (x ∷ [])) × AllBelow n (items_among (y ∷ []))
two_below x y h =
    let e = among_more [] x (y ∷ []) in
    (λ row m. h row (rw e (Memᴰ.append_left _ m)), λ row m. h row (rw e (Memᴰ.append_right (items_among (x ∷ [])) m)))

-- which items a simple condition names depends on the names alone
pub by_names : (lent : Lent) (x : Test) (a b : ℕ) → rows_asked (lent_names lent.names) x a b ≡ rows_asked lent x a b
by_names lent Alone a b = refl
by_names lent (Relation word negated) a b = refl
by_names lent (Class word negated) a b = refl
by_names lent (Sign word negated) a b = refl
by_names lent Unknown a b = refl

-- what a condition that can be marked gives to the code, by what it tests
module _ {names : List ℕ} {marks subject relation object : ℕ} (m : Markable names marks subject relation object) where
  pub name_inside : test_of relation ≡ Alone → is_name subject ≡ true → index_of subject * 18 < length names
  name_inside e n = omega (arith, m.named e n)

  pub name_below : test_of relation ≡ Alone → is_name subject ≡ true → name_item names (index_of subject) < marks
  name_below e n = m.room (name_item names (index_of subject)) (rw (e, n) (Memᴰ.head refl))

  module _ {word : ℕ} {negated : Bool} where
    pub relation_below : test_of relation ≡ Relation word negated → AllBelow marks (items_among (subject ∷ [])) × AllBelow marks (items_among (object ∷ []))
    relation_below e = two_below subject object (rw e at m.room)

    pub class-below : test_of relation ≡ Class word negated → AllBelow marks (items_among (subject ∷ []))
    class-below e = rw e at m.room

    pub sign_below : test_of relation ≡ Sign word negated → AllBelow marks (items_among (subject ∷ []))
    sign_below e = rw e at m.room

-- the rows of a plan, none yet and one more
pub named_none : (names plan marks : List ℕ) → marks ≡ marked marks (listed (rows_at (lent_names names) plan) 0)
named_none names plan marks = sym (ap (marked marks) (listed_none (rows_at (lent_names names) plan)) ∙ marked_none marks)

pub named_more : (names plan marks : List ℕ) (k : ℕ) {now : List ℕ} → now ≡ marked marks (listed (rows_at (lent_names names) plan) k) →
    marked now (rows_at (lent_names names) plan k) ≡ marked marks (listed (rows_at (lent_names names) plan) (k + 1))
named_more names plan marks k e =
    ap (λ m. marked m (rows_at (lent_names names) plan k)) e
    ∙ sym (ap (marked marks) (listed_more (rows_at (lent_names names) plan) k) ∙ marked_append marks (listed (rows_at (lent_names names) plan) k) (rows_at (lent_names names) plan k))

-- the rows reached from row k are that row and those reached from where it leads
pub reached-next : (out : Outcomes) (row : ℕ → PlanRow) (m k : ℕ) → k < on_false →
    reached out row (suc m) k
    ≡ visit k (row k).subject (row k).relation (row k).object
    ∷ reached out row m (next (row k) (out (row k).subject (row k).relation (row k).object))
unfolding when at
reached-next out row m k l =
    reached-row out row m k l ∙ ap (λ visits. visit k (row k).subject (row k).relation (row k).object ∷ visits) (go (out (row k).subject (row k).relation (row k).object))
  where
    go : (o : Outcome) → when (at k o) (reached out row m (row k).holds) (reached out row m (row k).fails) (λ _. []) ≡ reached out row m (next (row k) o)
    go True = refl
    go False = refl
    go (Stopped stop) = sym (reached_false out row m)

-- and from a verdict none
pub reached_none : (out : Outcomes) (row : ℕ → PlanRow) (m k : ℕ) → on_false ≤ k → k ≤ on_true → reached out row m k ≡ []
reached_none out row m k l h = by (ℕ_discrete k on_true)
  where
    by : Dec (k ≡ on_true) → reached out row m k ≡ []
    by (yes e) = rw e (reached_true out row m)
    by (no e) = let f : k ≡ on_false = omega arith in rw f (reached_false out row m)

-- A run has come to k: what is left of it, marked too, makes the marks of the whole run.
pub record Walking (lent : Lent) (out : Outcomes) (plan before marks : List ℕ) (k : ℕ) : Type 0 where
  pub top : k ≤ on_true
  pub inside : k < on_false → k < plan_rows plan
  pub left : ℕ
  pub enough : plan_rows plan - k ≤ left
  pub same : marked marks (footprint lent (reached out (plan_row plan) left k)) ≡ marked before (footprint lent (run_visits out plan))

module _ (lent : Lent) (plan content : List ℕ) (p : Runnable lent plan content) (out : Outcomes) (before : List ℕ) where
  pub walk-starts : Walking lent out plan before before 0
  unfolding run_visits
  walk-starts =
      let s = some-rows lent plan p.sound in
      record { top = omega arith; inside = λ _. s.1; left = plan_rows plan; enough = omega arith; same = refl }

  -- what row k comes to
  abbrev pub found : ℕ → Outcome
  found k = out (plan_row plan k).subject (plan_row plan k).relation (plan_row plan k).object

  -- where a run goes after row k is a later row, or a verdict's number
  pub goes_later : (k : ℕ) (o : Outcome) → k < plan_rows plan → Later (plan_rows plan) k (next (plan_row plan k) o)
  goes_later k True l = (certain lent plan content p k l).holds
  goes_later k False l = (certain lent plan content p k l).fails
  goes_later k (Stopped stop) l =
      record { after = omega (arith, some-rows lent plan p.sound); inside = λ h. absurd (omega arith); top = omega arith }

  on : (k m : ℕ) (marks : List ℕ) → k < on_false →
      marked marks (footprint lent (reached out (plan_row plan) (suc m) k))
      ≡ marked (marked marks (rows_at lent plan k)) (footprint lent (reached out (plan_row plan) m (next (plan_row plan k) (found k))))
  unfolding footprint
  on k m marks l =
      ap (λ visits. marked marks (footprint lent visits)) (reached-next out (plan_row plan) m k l) ∙ marked_append marks (rows_at lent plan k) _

  pub walks_on : (k : ℕ) {marks : List ℕ} → Walking lent out plan before marks k → k < on_false →
      Walking lent out plan before (marked marks (rows_at lent plan k)) (next (plan_row plan k) (found k))
  walks_on k {marks} w l = go w.left w.enough w.same
    where
      go : (m : ℕ) → plan_rows plan - k ≤ m → marked marks (footprint lent (reached out (plan_row plan) m k)) ≡ marked before (footprint lent (run_visits out plan)) →
          Walking lent out plan before (marked marks (rows_at lent plan k)) (next (plan_row plan k) (found k))
      go zero n h = absurd (omega (arith, w.inside l))
      go (suc m) n h =
          let t = goes_later k (found k) (w.inside l) in
          record { top = t.top; inside = t.inside; left = m; enough = omega (arith, t.after); same = sym (on k m marks l) ∙ h }

  -- the same of what the code holds: the row that it read, what the row came to, and where that leads
  module _ {k : ℕ} {marks : List ℕ} (w : Walking lent out plan before marks k) (l : k < on_false) {row : PlanRow} (r : row ≡ plan_row plan k) {o : Outcome}
      (e : o ≡ out row.subject row.relation row.object) {to : ℕ} (f : to ≡ next row o) where
    leads : to ≡ next (plan_row plan k) (found k)
    leads = f ∙ rw (e, r)

    pub leads_later : k < to
    leads_later = rw leads (goes_later k (found k) (w.inside l)).after

    pub walked_on : {now : List ℕ} → now ≡ marked marks (rows_asked (lent_names lent.names) (test_of row.relation) row.subject row.object) →
        Walking lent out plan before now to
    walked_on {now} m =
        let is : now ≡ marked marks (rows_at lent plan k) = m ∙ rw (r, by_names lent (test_of (plan_row plan k).relation) (plan_row plan k).subject (plan_row plan k).object) in
        rw (is, leads) (walks_on k w l)

  pub walk_ends : (k : ℕ) {marks : List ℕ} → Walking lent out plan before marks k → on_false ≤ k → marks ≡ marked before (footprint lent (run_visits out plan))
  unfolding footprint
  walk_ends k {marks} w l =
      sym (marked_none marks) ∙ ap (λ visits. marked marks (footprint lent visits)) (sym (reached_none out (plan_row plan) w.left k l w.top)) ∙ w.same
