-- What the call that reads a description leaves, as a book.
use mathlib.Core.Path.{◌≡◌, refl, sym, ap, ◌∙◌}
use mathlib.Core.List.{List, [], ◌∷◌, ◌++◌}
use Prim.Native.Nat.{ℕ, suc, ◌+◌, ◌-◌, ◌*◌, ◌/◌, ◌≤◌, ◌<◌}
use native.Mathlib.Omega.{arith}
use lib.ListN.{length, get_or, take, drop, replicate, length-append, length-drop, length-replicate}
use lib.Seq.{take_at}
use borrow.Author.Tests.{le-leb}
use borrow.Rule.Slice.PartMut.{put_mid}
use Rattle.description.specs.Grammar.{Value, single, range, Condition, Row, Pair, NameRow, name_row, Table, pairs, name_rows, literals}
use Rattle.description.specs.Limits.{Outcome, table, refusal, describe}
use Rattle.description.proofs.Keeping.{within}
use Rattle.spelling.specs.Names.{numbers}
use Rattle.spelling.proofs.Describing.{length-map, few_bytes}
use Rattle.tables.proofs.Front.{Front, front_length, front_rest, front_part}
use Rattle.literal_bytes.specs.Written.{written_over}
use Rattle.name_entries.specs.Named.{pair_numbers}
use Rattle.storing.specs.Naming.{row_numbers as name_row_numbers, name_numbers, name_of}
use Rattle.layouts.specs.Layouts.{row_numbers}
use Rattle.describing.specs.declared.Described.{Described}
use Rattle.describing.specs.declared.Described.TheVariants.{Counts, Faulty, Room}
use Rattle.describing.specs.Calls.{rows_of, place_of_name, places_of, names_of, name_places_of, literals_of, DescribedBy}
use Rattle.std.specs.Prelude.{Ok, Err}
use Rattle.books.specs.Calls.{NamedBy}
use Rattle.books.proofs.Finding.{numbers-length, few_items, few_conditions, few_rows}

-- the same numbers, as both crates have them
same_numbers : (rs : List Row) → row_numbers rs ≡ numbers rs
unfolding row_numbers numbers
same_numbers [] = refl
same_numbers (r ∷ rs) = ap (λ (v : List ℕ). r.kind ∷ r.offset ∷ r.size ∷ r.scale ∷ r.digits ∷ v) (same_numbers rs)

-- 18 numbers a name
pairs-length : (k : ℕ) (vs : List Value) → length (pairs k vs) ≡ length vs
unfolding pairs
pairs-length k [] = refl
pairs-length k (single x ∷ vs) = ap suc (pairs-length (k + 1) vs)
pairs-length k (range x y ∷ vs) = ap suc (pairs-length (k + 2) vs)

pair_numbers_lem : (ps : List Pair) → length (pair_numbers ps) ≡ length ps * 2
unfolding pair_numbers
pair_numbers_lem [] = refl
pair_numbers_lem (p ∷ ps) = omega (arith, pair_numbers_lem ps)

names-numbers : (k : ℕ) (cs : List Condition) → ((j : ℕ) (d : Condition) → j < length cs → length (get_or cs j d).values ≤ 8)
    → length (name_numbers (name_rows k cs)) ≡ length cs * 18
unfolding name_numbers name_rows
names-numbers k [] f = refl
names-numbers k (c ∷ cs) f =
    let ps : List Pair = pairs k c.values in
    let zeros : List ℕ = replicate (16 - length ps * 2) 0 in
    let rest : List NameRow = name_rows (k + length (literals c.values)) cs in
    omega (
      arith,
      f 0 c (omega arith),
      pairs-length k c.values,
      pair_numbers_lem ps,
      length-replicate {A = ℕ} (16 - length ps * 2) 0,
      length-append (pair_numbers ps) zeros,
      length-append (name_row_numbers (name_row c.item ps)) (name_numbers rest),
      names-numbers (k + length (literals c.values)) cs (λ j d l. f (suc j) d (omega arith)),
    )

module _ {text rows places names others literal-rows bytes : List ℕ} (r : Described) {rows-after places-after names-after others-after literals-after bytes_after : List ℕ}
    (D : DescribedBy text rows places names others literal-rows bytes r rows-after places-after names-after others-after literals-after bytes_after)
    (rows_room : 320 ≤ length rows) (places-room : 128 ≤ length places) (names-room : 1152 ≤ length names) (others-room : 64 ≤ length others)
    (literals_room : 320 ≤ length literal-rows) (bytes_room : 4096 ≤ length bytes) where
  -- the outcome of a valid description
  whole : (t : Table) → describe text ≡ table t
      → r ≡ Counts (length (rows_of t)) (length (places_of t)) (length (names_of t)) (length (name_places_of t)) (length (literals_of t)) (length t.bytes)
  whole t e =
      let w = within text t e in
      let n1 = le-leb (length (rows_of t)) (length rows) (omega (arith, ap length (same_numbers t.rows), numbers-length t.rows, w.as_many, w.items)) in
      let n2 = le-leb (length (places_of t)) (length places) (omega (arith, few_items text t e)) in
      let named = ap (λ (ns : List NameRow). length (name_numbers ns)) w.valid.named in
      let n3 = le-leb (length (names_of t)) (length names) (omega (arith, named, names-numbers 0 t.conditions (λ j d l. (w.name_kept j d l).few), w.names)) in
      let n4 = le-leb (length (name_places_of t)) (length others) (omega (arith, few_conditions text t e)) in
      let n5 = le-leb (length (literals_of t)) (length literal-rows) (omega (arith, ap length (same_numbers t.literals), few_rows text t e)) in
      let n6 = le-leb (length t.bytes) (length bytes) (omega (arith, few_bytes text t e)) in
      D.answered ∙ rw (e, n1, n2, n3, n4, n5, n6)

  faulty : (p : ℕ) → describe text ≡ refusal p → r ≡ Faulty p
  faulty p e = D.answered ∙ rw e

  -- counts are those of a table
  pub record Told (n k v b : ℕ) : Type 0 where
    pub t : Table
    pub e : describe text ≡ table t
    pub items : n ≡ length (places_of t)
    pub conditions : k ≡ length (name_places_of t)
    pub row_numbers_lem : v ≡ length (numbers t.literals)
    pub byte_count : b ≡ length t.bytes
    pub places_are : places-after ≡ places_of t ++ drop (length (places_of t)) places
    pub others_are : others-after ≡ name_places_of t ++ drop (length (name_places_of t)) others
    pub rows_are : literals-after ≡ written_over (numbers t.literals) literal-rows
    pub bytes_are : bytes_after ≡ written_over t.bytes bytes

  told : {a n c k v b : ℕ} → r ≡ Counts a n c k v b → Told n k v b
  told {a} {n} {c} {k} {v} {b} q = by (describe text) refl
    where
      by : (o : Outcome) → describe text ≡ o → Told n k v b
      by (table t) e =
          let s = whole t e in
          record {
            t = t;
            e = e;
            items = cc;
            conditions = cc;
            row_numbers_lem = let n : v ≡ length (literals_of t) = cc in n ∙ ap length (same_numbers t.literals);
            byte_count = cc;
            places_are = D.places_written ∙ rw (s, e);
            others_are = D.name_places_written ∙ rw (s, e);
            rows_are = D.literals_written ∙ rw (s, e) (ap (λ (x : List ℕ). written_over x literal-rows) (same_numbers t.literals));
            bytes_are = D.bytes_written ∙ rw (s, e);
          }
      by (refusal p) e = let s = faulty p e in let z : ◌≡◌ {A = ℕ} 0 1 = cc in absurd (omega arith)

  module _ {a n c k v b : ℕ} (q : r ≡ Counts a n c k v b) where
    items_front : Front (places_of (told q).t) places n places-after
    items_front =
        let T = told q in
        record {
          size = T.items;
          fits = omega (arith, T.items, few_items text T.t T.e);
          holds = T.places_are ∙ ap (λ (m : ℕ). places_of T.t ++ drop m places) (sym T.items);
        }

    pub few : (n ≤ 64) × (k ≤ 64) × (n ≤ length places-after) × (64 ≤ length others-after) × (64 ≤ length (take (length places-after - n) (drop n places-after)))
    few =
        let T = told q in
        let h : n ≤ 64 = omega (arith, T.items, few_items text T.t T.e) in
        let g : k ≤ 64 = omega (arith, T.conditions, few_conditions text T.t T.e) in
        let m = length-append (name_places_of T.t) (drop (length (name_places_of T.t)) others) in
        let x = length-drop (length (name_places_of T.t)) others in
        (h, g, omega (arith, front_length items_front), omega (arith, ap length T.others_are), omega (arith, ap length (front_rest items_front), length-drop n places))

    pub described_book : {back : List ℕ} → back ≡ take k others-after ++ drop k (take (length places-after - n) (drop n places-after))
        → NamedBy text places literal-rows bytes (Ok (record { items = n; places = n + k; literals = v / 5; bytes = b }))
        (put_mid n (length places-after - n) places-after back) literals-after bytes_after
    described_book {back} u =
        let T = told q in
        let ps : List ℕ = places_of T.t in
        let cs : List ℕ = name_places_of T.t in
        let copied : take k others-after ≡ cs = ap (take k) T.others_are ∙ take_at cs (drop (length cs) others) k (sym T.conditions) in
        let F = front_part items_front cs back k T.conditions (omega (arith, few)) (rw copied at u) in
        let x : n ≡ length T.t.entries = T.items ∙ length-map place_of_name T.t.entries in
        let y : k ≡ length T.t.conditions = T.conditions ∙ length-map name_of T.t.conditions in
        let z : v / 5 ≡ length T.t.literals = omega (arith, T.row_numbers_lem, numbers-length T.t.literals) in
        record {
          answered = rw (T.e, ← x, ← y, ← z, ← T.byte_count);
          places_written = rw T.e (F.holds ∙ ap (λ (m : ℕ). ps ++ cs ++ drop m places) F.size);
          rows_written = rw T.e T.rows_are;
          bytes_written = rw T.e T.bytes_are;
        }

  pub described_faulty : {p : ℕ} → r ≡ Faulty p → NamedBy text places literal-rows bytes (Err p) places-after literals-after bytes_after
  described_faulty {p} q = by (describe text) refl
    where
      by : (o : Outcome) → describe text ≡ o → NamedBy text places literal-rows bytes (Err p) places-after literals-after bytes_after
      by (table t) e = let s = whole t e in let z : ◌≡◌ {A = ℕ} 0 1 = cc in absurd (omega arith)
      by (refusal u) e =
          let s = faulty u e in
          let z : p ≡ u = cc in
          record {
            answered = rw (e, z);
            places_written = D.places_written ∙ rw (q, e);
            rows_written = D.literals_written ∙ rw (q, e);
            bytes_written = D.bytes_written ∙ rw (q, e);
          }

  pub never_room : {k : ℕ} → r ≡ Room k → ⊥
  never_room {k} q = by (describe text) refl
    where
      by : (o : Outcome) → describe text ≡ o → ⊥
      by (table t) e = let s = whole t e in let z : ◌≡◌ {A = ℕ} 0 1 = cc in omega arith
      by (refusal p) e = let s = faulty p e in let z : ◌≡◌ {A = ℕ} 0 1 = cc in omega arith
