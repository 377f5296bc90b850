-- Document 02, c), g): the byte of a stop is a byte of the record, whatever the tables hold; and in a record that holds the items of sound
-- tables it is below 131,072.
use mathlib.Core.Path.{◌≡◌, refl, sym, ◌∙◌}
use mathlib.Core.Bool.{Bool, true, false, cond}
use mathlib.Core.List.{List}
use Prim.Native.Nat.{ℕ, zero, suc, ◌+◌, ◌≤◌, ◌<◌}
use native.Mathlib.Omega.{arith}
use lib.ListN.{length, drop, length-take, length-drop}
use lib.Dec.{eqb}
use lib.IntN.{pos}
use Rattle.content.specs.WrongByte.{Wrong, Nowhere, At, first_wrong}
use Rattle.content.proofs.WrongByte.{wrong_within}
use Rattle.tables.specs.declared.Outcome.{Outcome}
use Rattle.tables.specs.declared.Outcome.TheVariants.{True as Holds, False as Fails, Stopped}
use Rattle.tables.specs.declared.Stop.{Stop}
use Rattle.tables.specs.declared.Stop.TheVariants.{Digits, Letters}
use Rattle.tables.specs.declared.Verdict.{Verdict}
use Rattle.tables.specs.declared.Verdict.TheVariants.{True, False, Refused}
use Rattle.content.specs.declared.Row.{Row}
use Rattle.tables.specs.Tokens.{is_item, is_name, index_of}
use Rattle.tables.specs.Rows.{row_at, is_group, part}
use Rattle.tables.specs.Operands.{Lent}
use Rattle.tables.specs.Names.{name_item}
use Rattle.typing.specs.declared.Test.{Test}
use Rattle.typing.specs.declared.Test.TheVariants.{Alone, Relation, Class, Sign, Unknown}
use Rattle.typing.specs.Tests.{test_of}
use Rattle.compare.specs.Switches.{switch_holds}
use Rattle.compare.specs.Classes.{class_holds}
use Rattle.compare.specs.Order.{orderℤ, relation_holds, sign_holds}
use Rattle.values.specs.Comparison.{Side, side, side_of, value_of, comparison, moved, wrong_byte, fault}
use Rattle.values.specs.Names.{item_side, name_holds}
use Rattle.values.specs.Truth.{truth, turned, stop_of, or_stop, relation_outcome, sign_outcome, name_outcome, test_outcome, outcome, Readable, Fit, Sided}
use Rattle.values.proofs.Reading.{fit_near, tables_sound, read_name, read_relation, read_sign}
use Rattle.values.proofs.Names.{item_fit, item_there}
use Rattle.grammar.specs.Grammar.{Tree, simple, negated, bracketed, both, either}
use Rattle.grammar.specs.Judging.{Outcomes, simple_count, when, at, judged}
use Rattle.grammar.specs.declared.PlanRow.{PlanRow}
use Rattle.grammar.specs.Plan.{on_true, on_false, plan_row, plan_rows, follow, run}
use Rattle.rules.specs.Stops.{InRecord, StopsInside, StopsInRecord}

-- a place, a stop, and what a simple condition gives, below a bound
module _ (bound : ℕ) where
  abbrev pub Near : Wrong → Type 0
  Near Nowhere = Unit {0}
  Near (At byte) = byte < bound

  abbrev pub NearStop : Stop → Type 0
  NearStop (Digits byte) = byte < bound
  NearStop (Letters byte) = byte < bound

  abbrev pub Stops : Outcome → Type 0
  Stops Holds = Unit {0}
  Stops Fails = Unit {0}
  Stops (Stopped stop) = NearStop stop

  near_beside : (b : Bool) (w : Wrong) → Near w → Near (cond b Nowhere w)
  near_beside true w h = tt
  near_beside false w h = h

  near_stop : (kind byte : ℕ) → byte < bound → NearStop (stop_of kind byte)
  near_stop kind byte h = by (eqb kind 1)
    where
      by : (b : Bool) → NearStop (cond b (Letters byte) (Digits byte))
      by true = h
      by false = h

  stops_or : (kind : ℕ) (w : Wrong) (out : Outcome) → Near w → Stops out → Stops (or_stop kind w out)
  stops_or kind Nowhere out h g = g
  stops_or kind (At byte) out h g = near_stop kind byte h

  stops-truth : (b : Bool) → Stops (truth b)
  stops-truth true = tt
  stops-truth false = tt

  stops_relation : (word : ℕ) (flag : Bool) (s o : Side) → Near (wrong_byte s) → Near (wrong_byte o) → Stops (relation_outcome word flag s o)
  stops_relation word flag s o h g =
      let holds = turned flag (relation_holds word (comparison s o)) in
      stops_or s.row.kind (fault s o.row) (or_stop o.row.kind (fault o s.row) (truth holds)) (near_beside (is_group o.row) (wrong_byte s) h)
      (stops_or o.row.kind (fault o s.row) (truth holds) (near_beside (is_group s.row) (wrong_byte o) g) (stops-truth holds))

  stops_sign : (word : ℕ) (flag : Bool) (s : Side) → Near (wrong_byte s) → Stops (sign_outcome word flag s)
  stops_sign word flag s h =
      let holds = turned flag (sign_holds word (orderℤ (value_of s) (pos 0))) in stops_or s.row.kind (wrong_byte s) (truth holds) h (stops-truth holds)

  module _ (lent : Lent) (content : List ℕ) (switches : ℕ) where
    -- the sides whose content a test uses
    abbrev Used : Test → ℕ → ℕ → Type 0
    Used Alone a b = cond (is_name a) (Near (wrong_byte (item_side lent content (name_item lent.names (index_of a))))) (Unit {0})
    Used (Relation word flag) a b = Near (wrong_byte (side_of lent content a)) × Near (wrong_byte (side_of lent content b))
    Used (Class word flag) a b = Unit {0}
    Used (Sign word flag) a b = Near (wrong_byte (side_of lent content a))
    Used Unknown a b = Unit {0}

    stops_test : (x : Test) (a b : ℕ) → Used x a b → Stops (test_outcome lent content switches x a b)
    stops_test Alone a b h = by (is_name a) h
      where
        by : (c : Bool) → cond c (Near (wrong_byte (item_side lent content (name_item lent.names (index_of a))))) (Unit {0})
            → Stops (cond c (name_outcome lent content (index_of a)) (truth (switch_holds switches a)))
        by true h =
            let item = item_side lent content (name_item lent.names (index_of a)) in
            stops_or item.row.kind (wrong_byte item) (truth (name_holds lent item (index_of a))) h (stops-truth (name_holds lent item (index_of a)))
        by false h = stops-truth (switch_holds switches a)
    stops_test (Relation word flag) a b h = stops_relation word flag (side_of lent content a) (side_of lent content b) h.0 h.1
    stops_test (Class word flag) a b h =
        stops-truth (turned flag (class_holds word (side_of lent content a).row.kind (side_of lent content a).row.digits (side_of lent content a).bytes))
    stops_test (Sign word flag) a b h = stops_sign word flag (side_of lent content a) h
    stops_test Unknown a b h = tt

-- an item's wrong byte is a byte of the record
module _ (lent : Lent) (content : List ℕ) where
  near_part : (row : Row) → Near (length content) (moved row.offset (first_wrong row.kind row.digits (part row content)))
  near_part row = by (first_wrong row.kind row.digits (part row content)) refl
    where
      by : (w : Wrong) → first_wrong row.kind row.digits (part row content) ≡ w → Near (length content) (moved row.offset w)
      by Nowhere e = tt
      by (At i) e =
          let inside = wrong_within row.kind row.digits (part row content) e in
          omega (arith, inside, length-take row.size (drop row.offset content), length-drop row.offset content)

  near_side : (x : ℕ) → Near (length content) (wrong_byte (side_of lent content x))
  near_side x = by (is_item x)
    where
      by : (b : Bool) → Near (length content) (wrong_byte (side b (cond b (row_at lent.items (index_of x)) (row_at lent.literals (index_of x)))
          (cond b (part (row_at lent.items (index_of x)) content) (part (row_at lent.literals (index_of x)) lent.bytes))))
      by true = near_part (row_at lent.items (index_of x))
      by false = tt

  stops_inside : (switches a r b : ℕ) → Stops (length content) (outcome lent content switches a r b)
  unfolding outcome
  stops_inside switches a r b = stops_test (length content) lent content switches (test_of r) a b (used (test_of r))
    where
      used : (x : Test) → Used (length content) lent content switches x a b
      used Alone = by (is_name a)
        where
          by : (c : Bool) → cond c (Near (length content) (wrong_byte (item_side lent content (name_item lent.names (index_of a))))) (Unit {0})
          by true = near_part (row_at lent.items (name_item lent.names (index_of a)))
          by false = tt
      used (Relation word flag) = (near_side a, near_side b)
      used (Class word flag) = tt
      used (Sign word flag) = near_side a
      used Unknown = tt

-- a fit side's is below 131,072
near_fit : {s : Side} → Fit s → Near 131072 (wrong_byte s)
near_fit {s} f = by s.item (first_wrong s.row.kind s.row.digits s.bytes) refl
  where
    by : (b : Bool) (w : Wrong) → first_wrong s.row.kind s.row.digits s.bytes ≡ w → Near 131072 (cond b (moved s.row.offset w) Nowhere)
    by true Nowhere e = tt
    by true (At i) e = omega (arith, wrong_within s.row.kind s.row.digits s.bytes e, (fit_near f).offset, (fit_near f).most)
    by false w e = tt

pub stops_near : {lent : Lent} {content : List ℕ} {a r b : ℕ} → Readable lent content a r b → (switches : ℕ)
    → Stops 131072 (outcome lent content switches a r b)
unfolding outcome
stops_near {lent} {content} {a} {r} {b} readable switches = stops_test 131072 lent content switches (test_of r) a b (used (test_of r) refl)
  where
    used : (x : Test) → test_of r ≡ x → Used 131072 lent content switches x a b
    used Alone e = by (is_name a) refl
      where
        by : (c : Bool) → is_name a ≡ c → cond c (Near 131072 (wrong_byte (item_side lent content (name_item lent.names (index_of a))))) (Unit {0})
        by true n =
            let named = read_name readable e n in
            near_fit (item_fit lent (tables_sound lent named.tables) content named.holds (name_item lent.names (index_of a))
            (item_there lent named.tables (index_of a) named.there))
        by false n = tt
    used (Relation word flag) e = let p = read_relation readable e in (near_fit p.0.fit, near_fit p.1.fit)
    used (Class word flag) e = tt
    used (Sign word flag) e = near_fit (read_sign readable e).0.fit
    used Unknown e = tt

-- what is judged and what is run stops in the record
module _ (content : List ℕ) where
  in_at : (n : ℕ) (o : Outcome) → Stops (length content) o → InRecord content (at n o)
  unfolding at
  in_at n Holds h = tt
  in_at n Fails h = tt
  in_at n (Stopped (Digits byte)) h = h
  in_at n (Stopped (Letters byte)) h = h

  in_when : (v a b : Verdict) → InRecord content v → InRecord content a → InRecord content b → InRecord content (when v a b Refused)
  unfolding when
  in_when True a b h p q = p
  in_when False a b h p q = q
  in_when (Refused refusal) a b h p q = h

  module _ (out : Outcomes) (each : (a r b : ℕ) → Stops (length content) (out a r b)) where
    in_judged : (n : ℕ) (t : Tree) → InRecord content (judged out n t)
    unfolding judged
    in_judged n (simple a r b) = in_at n (out a r b) (each a r b)
    in_judged n (negated t) = in_when (judged out n t) False True (in_judged n t) tt tt
    in_judged n (bracketed t) = in_judged n t
    in_judged n (both t u) = in_when (judged out n t) _ False (in_judged n t) (in_judged (n + simple_count t) u) tt
    in_judged n (either t u) = in_when (judged out n t) True _ (in_judged n t) tt (in_judged (n + simple_count t) u)

    in_cond : (b : Bool) (v w : Verdict) → InRecord content v → InRecord content w → InRecord content (cond b v w)
    in_cond true v w h g = h
    in_cond false v w h g = g

    in_follow : (row : ℕ → PlanRow) (m k : ℕ) → InRecord content (follow out row m k)
    unfolding follow
    in_follow row zero k = in_cond (eqb k on_true) True False tt tt
    in_follow row (suc m) k =
        in_cond (eqb k on_true) True _ tt
        (in_cond (eqb k on_false) False _ tt
        (in_when (at k (out (row k).subject (row k).relation (row k).object)) _ _ (in_at k _ (each (row k).subject (row k).relation (row k).object))
        (in_follow row m (row k).holds) (in_follow row m (row k).fails)))

pub stops_in_record : StopsInRecord
unfolding run
stops_in_record lent content switches =
    record {
      judge = in_judged content (outcome lent content switches) (stops_inside lent content switches);
      run = λ plan. in_follow content (outcome lent content switches) (stops_inside lent content switches) (plan_row plan) (plan_rows plan) 0;
    }
