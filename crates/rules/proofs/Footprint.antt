-- Document 02, n): judging and running read nothing of the record but the items of the simple conditions that they come to.
use mathlib.Core.Path.{◌≡◌, refl, ap, ap₂}
use mathlib.Core.Bool.{Bool, true, false, cond}
use mathlib.Core.List.Memᴰ
use mathlib.Core.List.{List, [], ◌∷◌, ◌++◌, Memᴰ}
use Prim.Native.Nat.{ℕ}
use lib.ListN.{length}
use Rattle.tables.specs.declared.Refusal.TheVariants.{Record}
use Rattle.tables.specs.Tokens.{is_item, is_name, index_of}
use Rattle.tables.specs.Rows.{row_at, row_count, part, lies_in}
use Rattle.tables.specs.Operands.{Lent, row_of, operand_bytes}
use Rattle.tables.specs.Tables.{record_check}
use Rattle.values.specs.Names.{lent_lines, name_holds}
use Rattle.tables.specs.Refusals.{first_of, Check}
use Rattle.tables.proofs.Lines.{failing_same}
use Rattle.tables.specs.Names.{name_item}
use Rattle.compare.specs.Switches.{switch_holds}
use Rattle.typing.specs.declared.Test.{Test}
use Rattle.typing.specs.declared.Test.TheVariants.{Alone, Relation, Class, Sign, Unknown}
use Rattle.typing.specs.Tests.{test_of}
use Rattle.values.specs.Comparison.{side, side_of, wrong_byte}
use Rattle.values.specs.Truth.{truth, or_stop, name_outcome, relation_outcome, class_outcome, sign_outcome, test_outcome, outcome}
use Rattle.grammar.specs.Judging.{Visit, Walk, walk}
use Rattle.grammar.specs.Parser.{Reading, accepted, refused, read}
use Rattle.grammar.specs.Plan.{plan_check, run, run_visits, running}
use Rattle.grammar.proofs.Walk.{Alike, judged-alike, run-alike}
use Rattle.rules.specs.Calls.{condition_lines, answers, tree_answer, judge_walk, run_walk}
use Rattle.rules.specs.Footprint.{rows_asked, rows_of_visit, items_among, footprint, Agree, LooksAt, LooksAtItsItems}
use Rattle.std.specs.Prelude.{Err, Ok}

-- an item among the operands of one of the visits is in the footprint
among : {x : ℕ} {operands : List ℕ} → Memᴰ x operands → is_item x ≡ true → Memᴰ (index_of x) (items_among operands)
unfolding items_among
among (Memᴰ.head e) i = rw (← e, i) (Memᴰ.head refl)
among {x} (Memᴰ.tail {x = y} {xs = ys} m) i = pick (is_item y) (among m i)
  where
    pick : (b : Bool) → Memᴰ (index_of x) (items_among ys) → Memᴰ (index_of x) (cond b (index_of y ∷ items_among ys) (items_among ys))
    pick true h = Memᴰ.tail h
    pick false h = h

in_footprint : (lent : Lent) {v : Visit} {visits : List Visit} {row : ℕ} → Memᴰ v visits → Memᴰ row (rows_of_visit lent v) → Memᴰ row (footprint lent visits)
unfolding footprint
in_footprint lent (Memᴰ.head {x = u} e) h = Memᴰ.append_left {s = rows_of_visit lent u} _ (rw (← e) h)
in_footprint lent (Memᴰ.tail {x = u} m) h = Memᴰ.append_right (rows_of_visit lent u) (in_footprint lent m h)

module _ (lent : Lent) (content other : List ℕ) (switches : ℕ) where
  -- an operand whose bytes are the same
  abbrev Same : ℕ → Type 0
  Same x = is_item x ≡ true → part (row_at lent.items (index_of x)) content ≡ part (row_at lent.items (index_of x)) other

  same_bytes : (x : ℕ) → Same x → operand_bytes lent content x ≡ operand_bytes lent other x
  same_bytes x h = go (is_item x) h
    where
      go : (b : Bool) → (b ≡ true → part (row_at lent.items (index_of x)) content ≡ part (row_at lent.items (index_of x)) other) →
          cond b (part (row_at lent.items (index_of x)) content) (part (row_at lent.literals (index_of x)) lent.bytes)
          ≡ cond b (part (row_at lent.items (index_of x)) other) (part (row_at lent.literals (index_of x)) lent.bytes)
      go true h = h refl
      go false h = refl

  same-side : (x : ℕ) → Same x → side_of lent content x ≡ side_of lent other x
  same-side x h = ap (λ bytes. side (is_item x) (row_of lent x) bytes) (same_bytes x h)

  -- the name's item: the same bytes give the same outcome, whatever the row holds
  same_name : (v : ℕ) → part (row_at lent.items (name_item lent.names v)) content ≡ part (row_at lent.items (name_item lent.names v)) other →
      name_outcome lent content v ≡ name_outcome lent other v
  same_name v h =
      ap
      (λ bytes. let item = side true (row_at lent.items (name_item lent.names v)) bytes in
      or_stop item.row.kind (wrong_byte item) (truth (name_holds lent item v))) h

  abbrev AgreeOn : List ℕ → Type 0
  AgreeOn rows = (row : ℕ) → Memᴰ row rows → part (row_at lent.items row) content ≡ part (row_at lent.items row) other

  same_test : (x : Test) (a b : ℕ) → AgreeOn (rows_asked lent x a b) → test_outcome lent content switches x a b ≡ test_outcome lent other switches x a b
  same_test Alone a b h = go (is_name a) h
    where
      go : (c : Bool) → AgreeOn (cond c (name_item lent.names (index_of a) ∷ []) []) →
          cond c (name_outcome lent content (index_of a)) (truth (switch_holds switches a)) ≡ cond c (name_outcome lent other (index_of a)) (truth (switch_holds switches a))
      go true h = same_name (index_of a) (h (name_item lent.names (index_of a)) (Memᴰ.head refl))
      go false h = refl
  same_test (Relation word negated) a b h =
      ap₂ (λ s o. relation_outcome word negated s o)
      (same-side a (λ i. h (index_of a) (among (Memᴰ.head refl) i)))
      (same-side b (λ i. h (index_of b) (among (Memᴰ.tail (Memᴰ.head refl)) i)))
  same_test (Class word negated) a b h = ap (λ s. class_outcome word negated s) (same-side a (λ i. h (index_of a) (among (Memᴰ.head refl) i)))
  same_test (Sign word negated) a b h = ap (λ s. sign_outcome word negated s) (same-side a (λ i. h (index_of a) (among (Memᴰ.head refl) i)))
  same_test Unknown a b h = refl

  -- so what each visited simple condition gives is the same
  alike : (visits : List Visit) → Agree lent (footprint lent visits) content other → Alike (outcome lent content switches) (outcome lent other switches) visits
  unfolding outcome
  alike visits h v m = same_test (test_of v.relation) v.subject v.object (λ row i. h row (in_footprint lent m i))

  -- and a walk, where the lines before it do not refuse
  after : (line : Check) (w z : Walk) → (Agree lent (footprint lent w.visits) content other → w ≡ z) →
      Agree lent (footprint lent (answers line w).visits) content other → answers line w ≡ answers line z
  after (Ok _) w z f h = f h
  after (Err refusal) w z f h = refl

  tree_same : (r : Reading) → Agree lent (footprint lent (tree_answer lent content switches r).visits) content other →
      tree_answer lent content switches r ≡ tree_answer lent other switches r
  tree_same (accepted t) h =
      let p = judged-alike (outcome lent content switches) (outcome lent other switches) 0 t (alike _ h) in ap₂ walk p.0 p.1
  tree_same (refused at) h = refl

  plan-same : (plan : List ℕ) → Agree lent (footprint lent (run_visits (outcome lent content switches) plan)) content other →
      running (outcome lent content switches) plan ≡ running (outcome lent other switches) plan
  plan-same plan h =
      let p = run-alike (outcome lent content switches) (outcome lent other switches) plan (alike _ h) in ap₂ walk p.0 p.1

  -- 12 asks only how long the record is
  same_record : length content ≡ length other → record_check lent content ≡ record_check lent other
  same_record e =
      failing_same (λ v. lies_in (row_at lent.items v) content) (λ v. lies_in (row_at lent.items v) other) Record 0 (row_count lent.items) (λ k l m. rw e)

  looks_at : length content ≡ length other → LooksAt lent content other switches
  unfolding judge_walk run_walk
  looks_at e =
      record {
        judge = λ tokens h.
            rw (← same_record e)
            (after (first_of (condition_lines lent tokens ++ record_check lent content ∷ [])) (tree_answer lent content switches (read tokens))
            (tree_answer lent other switches (read tokens)) (tree_same (read tokens)) h);
        run = λ plan h.
            rw (← same_record e)
            (after (first_of (lent_lines lent ++ plan_check lent plan ∷ record_check lent content ∷ [])) (running (outcome lent content switches) plan)
            (running (outcome lent other switches) plan) (plan-same plan) h);
      }

pub looks_at_its_items : LooksAtItsItems
looks_at_its_items = looks_at
