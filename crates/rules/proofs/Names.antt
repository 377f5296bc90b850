-- Document 02, h): a condition-name is judged as the relations that it stands for.
use mathlib.Core.Path.{◌≡◌, refl, sym, ap, ap₂, ◌∙◌}
use mathlib.Core.Bool.{Bool, true, false, not, cond, ◌&&◌, ◌||◌}
use mathlib.Core.List.{List}
use mathlib.Core.Logic.{⊎_elim}
use Prim.Native.Nat.{ℕ, zero, suc, ◌+◌, ◌-◌, ◌/◌, ◌%◌, ◌≤◌, ◌<◌}
use native.Mathlib.Omega.{arith}
use lib.ListN.{length}
use lib.Dec.{eqb, leb}
use borrow.Author.Tests.{leb-true, eqb-true}
use Rattle.content.specs.WrongByte.{Wrong, Nowhere, At, valid_content}
use Rattle.tables.specs.declared.Refusal.{Refusal}
use Rattle.tables.specs.declared.Refusal.TheVariants.{ItemTable, LiteralTable, LiteralRow, Name}
use Rattle.tables.specs.declared.Outcome.TheVariants.{Stopped}
use Rattle.tables.specs.declared.Stop.{Stop}
use Rattle.tables.specs.declared.Stop.TheVariants.{Digits, Letters}
use Rattle.tables.specs.declared.Verdict.{Verdict}
use Rattle.tables.specs.declared.Verdict.TheVariants.{True, False, Refused}
use Rattle.content.specs.declared.Row.{Row}
use Rattle.tables.specs.Rows.{row_count, name_count, row_at, row_sound, is_group, part, lies_in}
use Rattle.tables.specs.Operands.{Lent}
use Rattle.tables.specs.Refusals.{unless, first_of}
use Rattle.tables.specs.Tables.{length_sound, literal_sound}
use Rattle.tables.specs.Names.{name_item, name_pairs, name_low, name_high}
use Rattle.tables.proofs.Tests.{both, four, either}
use Rattle.tables.proofs.Lines.{test_sound, every_sound, lines_sound, AllSound}
use Rattle.typing.specs.Typing.{relation_typed, typed}
use Rattle.compare.specs.Order.{relation_holds}
use Rattle.values.specs.Comparison.{Side, side, side_of, comparison, wrong_byte, fault}
use Rattle.values.specs.Names.{some, item_side, literal_side, comparable, name_holds, lent_lines}
use Rattle.values.proofs.Names.{PairFacts, name_lines, item_there, some_pairs, pair_at}
use Rattle.values.specs.Truth.{truth, or_stop, stop_of, relation_outcome, name_outcome, outcome}
use Rattle.grammar.specs.Judging.{Outcomes, simple_count, when, at, judged}
use Rattle.rules.specs.Demands.{WellTyped}
use Rattle.rules.specs.Names.{pair_tree, pairs_tree, name_tree, Means, NamesMean}
use Rattle.std.specs.Prelude.{Ok}

-- what is true or false, as a verdict
abbrev told : Bool → Verdict
told true = True
told false = False

at_truth : (n : ℕ) (b : Bool) → at n (truth b) ≡ told b
unfolding at
at_truth n true = refl
at_truth n false = refl

told_and : (a b : Bool) → when (told a) (told b) False Refused ≡ told (a && b)
unfolding when
told_and true b = refl
told_and false b = refl

told_or : (a b : Bool) → when (told a) True (told b) Refused ≡ told (a || b)
unfolding when
told_or true b = refl
told_or false b = refl

stop_when : (n : ℕ) (s : Stop) (x y : Verdict) → when (at n (Stopped s)) x y Refused ≡ at n (Stopped s)
unfolding at when
stop_when n (Digits byte) x y = refl
stop_when n (Letters byte) x y = refl

-- the relations of m + 1 pairs, by what each of them gives
module _ (out : Outcomes) (item : ℕ) (low high : ℕ → ℕ) (m : ℕ) where
  module _ (a b : ℕ → Bool) (lows : (k : ℕ) → k ≤ m → out item 8 (low k) ≡ truth (a k)) (highs : (k : ℕ) → k ≤ m → out item 9 (high k) ≡ truth (b k)) where
    told-pair : (k n j : ℕ) → k ≤ m → when (at n (out item 8 (low k))) (at j (out item 9 (high k))) False Refused ≡ told (a k && b k)
    told-pair k n j l = rw (lows k l, highs k l, at_truth n (a k), at_truth j (b k)) (told_and (a k) (b k))

    pair-judged : (k n : ℕ) → k ≤ m → judged out n (pair_tree item (low k) (high k)) ≡ told (a k && b k)
    unfolding judged simple_count
    pair-judged k n l = told-pair k n (n + 1) l

    pairs-judged : (k n : ℕ) → k ≤ m → judged out n (pairs_tree item low high k) ≡ told (some (λ j. a j && b j) (suc k))
    unfolding judged some pairs_tree
    pairs-judged zero n l = pair-judged 0 n l
    pairs-judged (suc k) n l =
        ap₂ (λ v w. when v True w Refused) (pairs-judged k n (omega arith)) (pair-judged (suc k) _ l)
        ∙ told_or (some (λ j. a j && b j) (suc k)) (a (suc k) && b (suc k))

  module _ (s : Stop) (lows : (k : ℕ) → k ≤ m → out item 8 (low k) ≡ Stopped s) where
    pair-stops : (k n : ℕ) → k ≤ m → judged out n (pair_tree item (low k) (high k)) ≡ at n (Stopped s)
    unfolding judged
    pair-stops k n l = rw (lows k l) (stop_when n s _ _)

    pairs_stop : (k n : ℕ) → k ≤ m → judged out n (pairs_tree item low high k) ≡ at n (Stopped s)
    unfolding judged pairs_tree
    pairs_stop zero n l = pair-stops 0 n l
    pairs_stop (suc k) n l = rw (pairs_stop k n (omega arith)) (stop_when n s _ _)

-- a literal is no group
literal_no_group : (bytes : List ℕ) (r : Row) → literal_sound bytes r ≡ true → is_group r ≡ false
literal_no_group bytes r e =
    let f = four (row_sound r) (eqb r.kind 2 || eqb r.kind 3 || eqb r.kind 5) (lies_in r bytes) (valid_content r.kind r.digits (part r bytes)) e in
    ⊎_elim
    (λ u. ⊎_elim (λ p. rw (eqb-true r.kind 2 p)) (λ p. rw (eqb-true r.kind 3 p)) (either (eqb r.kind 2) (eqb r.kind 3) u))
    (λ p. rw (eqb-true r.kind 5 p))
    (either (eqb r.kind 2 || eqb r.kind 3) (eqb r.kind 5) f.1)

-- a relation of an item with a literal that is no group: the item's wrong byte is its fault
item_relation : (word : ℕ) (s : Side) (row : Row) (bytes : List ℕ) → is_group row ≡ false →
    relation_outcome word false s (side false row bytes) ≡ or_stop s.row.kind (wrong_byte s) (truth (relation_holds word (comparison s (side false row bytes))))
item_relation word s row bytes e = rw e (by (is_group s.row))
  where
    by : (b : Bool) →
        or_stop s.row.kind (wrong_byte s) (or_stop row.kind (cond b Nowhere Nowhere) (truth (relation_holds word (comparison s (side false row bytes)))))
        ≡ or_stop s.row.kind (wrong_byte s) (truth (relation_holds word (comparison s (side false row bytes))))
    by true = refl
    by false = refl

few_rows : (table : List ℕ) (refusal : Refusal) → unless (length_sound table) refusal ≡ Ok tt → row_count table ≤ 64
few_rows table refusal e =
    let l : length table ≤ 320 = leb-true _ _ (both (eqb (length table % 5) 0) (leb (length table) 320) (test_sound _ refusal e)).1 in
    omega arith

module _ (lent : Lent) (tables : first_of (lent_lines lent) ≡ Ok tt) (v : ℕ) (inside : v < name_count lent.names) where
  lines : AllSound (lent_lines lent)
  lines = lines_sound (lent_lines lent) tables

  few_names : name_count lent.names ≤ 64
  few_names =
      let l : length lent.names ≤ 1152 =
      leb-true _ _ (both (eqb (length lent.names % 18) 0) (leb (length lent.names) 1152) (test_sound _ (Name 0) (name_lines lent tables v inside).0)).1 in
      omega arith

  abbrev item : ℕ
  item = name_item lent.names v

  abbrev low : ℕ → ℕ
  low k = name_low lent.names v k

  abbrev high : ℕ → ℕ
  high k = name_high lent.names v k

  pair : (k : ℕ) → k < name_pairs lent.names v → PairFacts lent (row_at lent.items item) (low k) (high k)
  pair k l = pair_at lent tables v inside k l

  few_items : item < 64
  few_items = omega (arith, item_there lent tables v inside, few_rows lent.items ItemTable lines.0)

  few_literals : row_count lent.literals ≤ 64
  few_literals = few_rows lent.literals LiteralTable lines.1.1.0

  no_group : (l : ℕ) → l < row_count lent.literals → is_group (row_at lent.literals l) ≡ false
  no_group l h = literal_no_group lent.bytes (row_at lent.literals l) (every_sound _ LiteralRow _ lines.1.1.1.0 l h)

  -- the sides of their tokens
  item_side_lem : (content : List ℕ) → side_of lent content item ≡ item_side lent content item
  item_side_lem content =
      let q : item / 65536 ≡ 0 = omega (arith, few_items) in
      let r : item % 65536 ≡ item = omega (arith, few_items) in
      rw (q, r)

  literal_side_lem : (content : List ℕ) (l : ℕ) → l < row_count lent.literals → side_of lent content (65536 + l) ≡ literal_side lent l
  literal_side_lem content l h =
      let q : (65536 + l) / 65536 ≡ 1 = omega (arith, few_literals) in
      let r : (65536 + l) % 65536 ≡ l = omega (arith, few_literals) in
      rw (q, r)

  -- "a value that may be compared with the item", by 01's typing
  relation_typed_lem : (l : ℕ) → l < row_count lent.literals → comparable (row_at lent.items item) (row_at lent.literals l) ≡ true →
      relation_typed lent item (65536 + l) ≡ true
  relation_typed_lem l h fits =
      let q : item / 65536 ≡ 0 = omega (arith, few_items) in
      let r : item % 65536 ≡ item = omega (arith, few_items) in
      let q' : (65536 + l) / 65536 ≡ 1 = omega (arith, few_literals) in
      let r' : (65536 + l) % 65536 ≡ l = omega (arith, few_literals) in
      rw (q, r, q', r') fits

  pairs-typed : (k : ℕ) → k < name_pairs lent.names v → WellTyped lent (pairs_tree item (λ j. 65536 + low j) (λ j. 65536 + high j) k)
  unfolding pairs_tree typed
  pairs-typed zero l =
      let p = pair 0 l in (relation_typed_lem (low 0) p.low_there p.low_fits, relation_typed_lem (high 0) p.high_there p.high_fits)
  pairs-typed (suc k) l =
      let p = pair (suc k) l in
      (pairs-typed k (omega arith), (relation_typed_lem (low (suc k)) p.low_there p.low_fits, relation_typed_lem (high (suc k)) p.high_there p.high_fits))

  module _ (content : List ℕ) (switches : ℕ) where
    abbrev out : Outcomes
    out = outcome lent content switches

    abbrev s : Side
    s = item_side lent content item

    -- the item is not below the low end of pair k, and not above the high one
    abbrev above : ℕ → Bool
    above k = relation_holds 8 (comparison s (literal_side lent (low k)))

    abbrev below : ℕ → Bool
    below k = relation_holds 9 (comparison s (literal_side lent (high k)))

    -- a relation of the item with one of the literals
    relation : (word l : ℕ) → l < row_count lent.literals →
        relation_outcome word false (side_of lent content item) (side_of lent content (65536 + l))
        ≡ or_stop s.row.kind (wrong_byte s) (truth (relation_holds word (comparison s (literal_side lent l))))
    relation word l h =
        ap₂ (relation_outcome word false) (item_side_lem content) (literal_side_lem content l h)
        ∙ item_relation word s (row_at lent.literals l) (part (row_at lent.literals l) lent.bytes) (no_group l h)

    lows : (k : ℕ) → k < name_pairs lent.names v →
        out item 8 (65536 + low k) ≡ or_stop s.row.kind (wrong_byte s) (truth (above k))
    unfolding outcome
    lows k l = relation 8 (low k) (pair k l).low_there

    highs : (k : ℕ) → k < name_pairs lent.names v →
        out item 9 (65536 + high k) ≡ or_stop s.row.kind (wrong_byte s) (truth (below k))
    unfolding outcome
    highs k l = relation 9 (high k) (pair k l).high_there

    the_name : out (327680 + v) 0 0 ≡ name_outcome lent content v
    unfolding outcome
    the_name =
        let q : (327680 + v) / 65536 ≡ 5 = omega (arith, few_names, inside) in
        let r : (327680 + v) % 65536 ≡ v = omega (arith, few_names, inside) in
        rw (q, r)

    enough : 1 ≤ name_pairs lent.names v
    enough = some_pairs lent tables v inside

    means : (n : ℕ) (w : Wrong) → wrong_byte s ≡ w → at n (out (327680 + v) 0 0) ≡ judged out n (name_tree lent v)
    means n Nowhere e =
        let e' : suc (name_pairs lent.names v - 1) ≡ name_pairs lent.names v = omega (arith, enough) in
        ap (at n) (the_name ∙ ap (λ w. or_stop s.row.kind w (truth (name_holds lent s v))) e)
        ∙ at_truth n (name_holds lent s v)
        ∙ ap (λ m. told (some (λ k. above k && below k) m)) (sym e')
        ∙ sym
        (pairs-judged out item (λ k. 65536 + low k) (λ k. 65536 + high k) (name_pairs lent.names v - 1)
        above below
        (λ k l. lows k (omega (arith, enough)) ∙ ap (λ w. or_stop s.row.kind w (truth (above k))) e)
        (λ k l. highs k (omega (arith, enough)) ∙ ap (λ w. or_stop s.row.kind w (truth (below k))) e)
        (name_pairs lent.names v - 1) n (omega arith))
    means n (At byte) e =
        ap (at n) (the_name ∙ ap (λ w. or_stop s.row.kind w (truth (name_holds lent s v))) e)
        ∙ sym
        (pairs_stop out item (λ k. 65536 + low k) (λ k. 65536 + high k) (name_pairs lent.names v - 1) (stop_of s.row.kind byte)
        (λ k l. lows k (omega (arith, enough)) ∙ ap (λ w. or_stop s.row.kind w (truth (above k))) e)
        (name_pairs lent.names v - 1) n (omega arith))

  name_means : Means lent v
  unfolding judged
  name_means =
      record {
        typed = pairs-typed (name_pairs lent.names v - 1) (omega (arith, some_pairs lent tables v inside));
        judges = λ content switches n. means content switches n (wrong_byte (item_side lent content item)) refl;
      }

pub names_mean : NamesMean
names_mean = name_means
