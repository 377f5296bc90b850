-- Of 1 to 4 and 18 none follows on what a description gives.
use mathlib.Core.Path.{◌≡◌, refl, sym, ap, ap₂, ◌∙◌}
use mathlib.Core.Bool.{Bool, true, false, cond}
use mathlib.Core.List.{List, ◌++◌}
use Prim.Native.Nat.{ℕ, ◌+◌, ◌*◌, ◌%◌, ◌≤◌, ◌<◌}
use native.Mathlib.Omega.{arith}
use lib.Dec.{eqb, leb}
use lib.ListN.{length, get_or, take, drop, length-append, length-drop, get_or-append}
use lib.Seq.{take_at, take-append-le, drop-append-le}
use borrow.Author.Tests.{eq-eqb, le-leb}
use Rattle.tables.specs.declared.Refusal.TheVariants.{ItemRow, LiteralRow, Name}
use Rattle.content.specs.declared.Row as Rules
use Rattle.tables.specs.Rows.{row_count, name_count, row_at, row_sound, part}
use Rattle.tables.specs.Operands.{Lent}
use Rattle.tables.specs.Refusals.{first_failing, first_of}
use Rattle.tables.specs.Tables.{literal_sound, item_table_check, item_row_check, literal_table_check, literal_row_check}
use Rattle.tables.specs.Names.{names_length_sound}
use Rattle.tables.proofs.Lines.{failing_none}
use Rattle.tables.proofs.Tests.{and_both}
use Rattle.values.specs.Names.{name_sound, name_check, lent_lines}
use Rattle.description.specs.Grammar.{Row, row, Literal, literal_row, literal_rows, literals_of, name_rows, Table}
use Rattle.description.specs.Limits.{Outcome, table, refusal, describe, ruled}
use Rattle.description.proofs.Keeping.{Within, within}
use Rattle.spelling.proofs.Given.{AllFitting, entries_fit}
use Rattle.spelling.proofs.Describing.{few_bytes}
use Rattle.storing.specs.Naming.{name_numbers}
use Rattle.layouts.specs.Layouts.{row_numbers}
use Rattle.describing.specs.declared.Described.{Described}
use Rattle.describing.specs.declared.Described.TheVariants.{Counts, Faulty, Room}
use Rattle.describing.specs.Calls as Calls
use Rattle.describing.specs.Calls.{rows_of, places_of, names_of, name_places_of}
use Rattle.lending.specs.Lending.{lent, lent_of, Lendable, NamesLendable, OutputsLendable}
use Rattle.lending.proofs.Rows.{count_is, length_sound_lem, row_at_lem}
use Rattle.lending.proofs.Items.{rows_low}
use Rattle.lending.proofs.Literals.{nothing, offset, rows-length, row_is, bytes_at_lem, sound_at}
use Rattle.lending.proofs.Values.{Holds}
use Rattle.lending.proofs.Names.{AllGood, all_good, names-length, names_sound}
use Rattle.std.specs.Prelude.{Ok}

abbrev none : Row
none = row 0 0 0 0 0

module _ (off : Bool) (text : List ℕ) (t : Table) (e : describe text ≡ table t) where
  abbrev w : Within text t
  w = within text t e

  abbrev l : Lent
  l = lent_of off t

  abbrev xs : List Literal
  xs = literals_of t.conditions

  literals_are : Calls.literals_of t ≡ row_numbers (literal_rows 0 xs)
  literals_are = ap row_numbers w.valid.literals

  literal-count : row_count (Calls.literals_of t) ≡ length xs
  literal-count = ap row_count literals_are ∙ count_is (literal_rows 0 xs) ∙ rows-length 0 xs

  fitting : AllFitting xs
  fitting =
      entries_fit w.valid.described (λ j d h. record { item_row_lem = get_or t.rows (get_or t.conditions j d).item none; free = (w.name_kept j d h).free })

  -- 1, 2
  items_long : item_table_check l ≡ Ok tt
  items_long = rw (length_sound_lem t.rows (omega (arith, w.as_many, w.items)))

  items_sound : item_row_check l ≡ Ok tt
  items_sound =
      failing_none (λ v. row_sound (row_at (rows_of t) v)) ItemRow 0 (row_count (rows_of t)) (λ v a b.
      let h : v < length t.rows = omega (arith, count_is t.rows) in
      ap row_sound (row_at_lem t.rows v none h) ∙ rows_low w.valid.described w.valid.nested v none h (w.row_kept v none h))

  -- 3, 4
  literals_long : literal_table_check l ≡ Ok tt
  literals_long = rw (literals_are, length_sound_lem (literal_rows 0 xs) (omega (arith, rows-length 0 xs, w.literals)))

  row_of_lem : (k : ℕ) → k < length xs → row_at (Calls.literals_of t) k ≡ ruled (literal_row (offset xs k) (get_or xs k nothing))
  row_of_lem k h =
      ap (λ (ns : List ℕ). row_at ns k) literals_are ∙ row_at_lem (literal_rows 0 xs) k none (omega (arith, rows-length 0 xs)) ∙ ap ruled (row_is xs k none h)

  literals_sound : literal_row_check l ≡ Ok tt
  literals_sound =
      failing_none (λ v. literal_sound t.bytes (row_at (Calls.literals_of t) v)) LiteralRow 0 (row_count (Calls.literals_of t)) (λ v a b.
      let h : v < length xs = omega (arith, literal-count) in
      ap₂ literal_sound w.valid.bytes (row_of_lem v h) ∙ sound_at xs v fitting (omega (arith, few_bytes text t e, ap length w.valid.bytes)) h)

  holds : (k : ℕ) → k < length xs → Holds l k (get_or xs k nothing)
  holds k h =
      record {
        there = omega (arith, literal-count);
        at = offset xs k;
        row_of_lem = row_of_lem k h;
        bytes_of = ap (part (ruled (literal_row (offset xs k) (get_or xs k nothing)))) w.valid.bytes ∙ (bytes_at_lem xs k h).0;
      }

  -- 18
  good : AllGood t.rows t.conditions
  good = all_good t.rows w.valid.described (omega (arith, w.as_many)) (λ j d h. ((w.name_kept j d h).few, (w.name_kept j d h).free))

  names_are : names_of t ≡ name_numbers (name_rows 0 t.conditions)
  names_are = ap name_numbers w.valid.named

  names-count : length (names_of t) ≡ length t.conditions * 18
  names-count = ap length names_are ∙ names-length t.rows 0 t.conditions good

  names_long : names_length_sound (names_of t) ≡ true
  names_long =
      and_both (eqb (length (names_of t) % 18) 0) (leb (length (names_of t)) 1152) (eq-eqb (length (names_of t) % 18) 0 (omega (arith, names-count)))
      (le-leb (length (names_of t)) 1152 (omega (arith, names-count, w.names)))

  -- with any literal table that holds the values
  module _ (ls bs : List ℕ) (all : (k : ℕ) → k < length xs → Holds (lent off (rows_of t) ls bs (names_of t)) k (get_or xs k nothing)) where
    abbrev beside : Lent
    beside = lent off (rows_of t) ls bs (names_of t)

    each_name : (v : ℕ) → v < length t.conditions → name_sound beside v ≡ true
    each_name v h =
        let z : 0 + v ≡ v = omega arith in
        rw z at
        (names_sound beside t.rows refl xs all 0 0 t.conditions
        (λ m. let y : 0 * 18 + m ≡ m = omega arith in rw y (ap (λ (ns : List ℕ). get_or ns m 0) names_are)) good refl v h)

    names_fine : first_failing (name_sound beside) Name 0 (name_count (names_of t)) ≡ Ok tt
    names_fine = failing_none (name_sound beside) Name 0 (name_count (names_of t)) (λ v a b. each_name v (omega (arith, names-count)))

    names_checked : name_check beside ≡ Ok tt
    unfolding first_of
    names_checked = rw (names_long, names_fine)

  lines : first_of (lent_lines l) ≡ Ok tt
  unfolding first_of
  lines = rw (items_long, items_sound, literals_long, literals_sound, names_checked (Calls.literals_of t) t.bytes holds)

  -- more literals behind them
  module _ (more content : List ℕ) (k : ℕ) (h : k < length xs) where
    same : (j : ℕ) → j < 5 → get_or (Calls.literals_of t ++ more) (k * 5 + j) 0 ≡ get_or (Calls.literals_of t) (k * 5 + j) 0
    same j i = get_or-append (Calls.literals_of t) more 0 (k * 5 + j) (omega (arith, literal-count))

    same_row : row_at (Calls.literals_of t ++ more) k ≡ row_at (Calls.literals_of t) k
    same_row =
        let z : k * 5 + 0 ≡ k * 5 = omega arith in
        let first : get_or (Calls.literals_of t ++ more) (k * 5) 0 ≡ get_or (Calls.literals_of t) (k * 5) 0 = rw z at (same 0 (omega arith)) in
        rw (first, same 1 (omega arith), same 2 (omega arith), same 3 (omega arith), same 4 (omega arith))

    same-part : part (ruled (literal_row (offset xs k) (get_or xs k nothing))) (t.bytes ++ content) ≡ (get_or xs k nothing).bytes
    same-part =
        let b = bytes_at_lem xs k h in
        let n : offset xs k + length (get_or xs k nothing).bytes ≤ length t.bytes = omega (arith, b.1, ap length w.valid.bytes) in
        ap (take (length (get_or xs k nothing).bytes)) (drop-append-le (offset xs k) t.bytes content (omega arith))
        ∙ take-append-le (length (get_or xs k nothing).bytes) (drop (offset xs k) t.bytes) content (omega (arith, length-drop (offset xs k) t.bytes))
        ∙ ap (part (ruled (literal_row (offset xs k) (get_or xs k nothing)))) w.valid.bytes ∙ b.0

    holds_behind : Holds (lent off (rows_of t) (Calls.literals_of t ++ more) (t.bytes ++ content) (names_of t)) k (get_or xs k nothing)
    holds_behind =
        record {
          there = omega (arith, literal-count, length-append (Calls.literals_of t) more);
          at = offset xs k;
          row_of_lem = same_row ∙ row_of_lem k h;
          bytes_of = same-part;
        }

pub lendable : Lendable
lendable off text t e = lines off text t e

pub names_lendable : NamesLendable
names_lendable off text t more content e =
    names_checked off text t e (Calls.literals_of t ++ more) (t.bytes ++ content) (holds_behind off text t e more content)

-- The counts are those of the table.
module _ {a b c d e f : ℕ} where
  roomy : (t : Bool) (x : Described) (m : ℕ) → cond t x (Room m) ≡ Counts a b c d e f → x ≡ Counts a b c d e f
  roomy true x m q = q
  roomy false x m q = let z : ◌≡◌ {A = ℕ} 0 1 = cc in absurd (omega arith)

  counted : (A B C D E F G H I J K L : ℕ) → Calls.room A B C D E F G H I J K L ≡ Counts a b c d e f → Counts A B C D E F ≡ Counts a b c d e f
  counted A B C D E F G H I J K L q =
      let s = roomy (leb A G) _ A q in
      let t = roomy (leb B H) _ B s in
      let u = roomy (leb C I) _ C t in
      let v = roomy (leb D J) _ D u in
      roomy (leb F L) _ F (roomy (leb E K) _ E v)

front : (out before : List ℕ) {after : List ℕ} {n : ℕ} → after ≡ out ++ drop (length out) before → length out ≡ n → take n after ≡ out
front out before {n = n} q h = ap (take n) q ∙ take_at out (drop (length out) before) n h

pub outputs_lendable : OutputsLendable
outputs_lendable off text rows places names name-places literals bytes rows-after places-after names-after name-places-after literals-after bytes_after a b c d e f D = by (describe text) refl
  where
    by : (o : Outcome) → describe text ≡ o → first_of (lent_lines (lent off (take a rows-after) (take e literals-after) (take f bytes_after) (take c names-after))) ≡ Ok tt
    by (refusal p) q = let s : Counts a b c d e f ≡ Faulty p = D.answered ∙ rw q in let z : ◌≡◌ {A = ℕ} 0 1 = cc in absurd (omega arith)
    by (table t) q =
        let s =
        counted (length (rows_of t)) (length (places_of t)) (length (names_of t)) (length (name_places_of t)) (length (Calls.literals_of t)) (length t.bytes)
        (length rows) (length places) (length names) (length name-places) (length literals) (length bytes) (sym (D.answered ∙ rw q)) in
        let n1 : length (rows_of t) ≡ a = cc in
        let n3 : length (names_of t) ≡ c = cc in
        let n5 : length (Calls.literals_of t) ≡ e = cc in
        let n6 : length t.bytes ≡ f = cc in
        let o1 : rows-after ≡ rows_of t ++ drop (length (rows_of t)) rows = D.rows_written ∙ rw q in
        let o3 : names-after ≡ names_of t ++ drop (length (names_of t)) names = D.names_written ∙ rw q in
        let o5 : literals-after ≡ Calls.literals_of t ++ drop (length (Calls.literals_of t)) literals = D.literals_written ∙ rw q in
        let o6 : bytes_after ≡ t.bytes ++ drop (length t.bytes) bytes = D.bytes_written ∙ rw q in
        let same : lent off (take a rows-after) (take e literals-after) (take f bytes_after) (take c names-after) ≡ lent_of off t =
        ap₂ (λ (x y : List ℕ). lent off x (take e literals-after) (take f bytes_after) y) (front (rows_of t) rows o1 n1) (front (names_of t) names o3 n3)
        ∙ ap₂ (λ (x y : List ℕ). lent off (rows_of t) x y (names_of t)) (front (Calls.literals_of t) literals o5 n5) (front t.bytes bytes o6 n6) in
        ap (λ (x : Lent). first_of (lent_lines x)) same ∙ lendable off text t q
