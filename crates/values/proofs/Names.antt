-- Laws of condition-names: what sound tables and a sound row of theirs say, in numbers and of sides.
use mathlib.Core.Path.{◌≡◌, refl}
use mathlib.Core.Bool.{Bool, true, ◌&&◌, ◌||◌}
use mathlib.Core.List.{List}
use Prim.Native.Nat.{ℕ, zero, suc, ◌≤◌, ◌<◌}
use native.Mathlib.Omega.{arith}
use native.Mathlib.Decide.{ℕ_discrete}
use lib.Dec.{eqb, leb, ltb}
use borrow.Author.Tests.{leb-true, ltb-true, lt-ltb}
use Rattle.content.specs.WrongByte.{valid_content}
use Rattle.tables.specs.declared.Refusal.TheVariants.{ItemRow, LiteralRow, Record, Name}
use Rattle.content.specs.declared.Row.{Row}
use Rattle.tables.specs.Rows.{row_count, name_count, row_at, row_sound, part, lies_in}
use Rattle.tables.specs.Operands.{Lent}
use Rattle.tables.specs.Refusals.{unless, first_of}
use Rattle.tables.specs.Tables.{table_lines, literal_sound, record_check}
use Rattle.tables.specs.Names.{name_item, name_pairs, name_low, name_high, names_length_sound}
use Rattle.tables.proofs.Tests.{both, four}
use Rattle.tables.proofs.Lines.{every_sound, lines_sound, AllSound}
use Rattle.tables.proofs.Bytes.{part_length}
use Rattle.std.specs.declared.cmp.Ordering.{Ordering}
use Rattle.std.specs.declared.cmp.Ordering.TheVariants.{Less, Equal, Greater}
use Rattle.compare.specs.Order.{relation_holds}
use Rattle.values.specs.Comparison.{Side, comparison}
use Rattle.values.specs.Names.{every, item_side, literal_side, comparable, pair_sound, place_sound, name_sound, lent_lines}
use Rattle.values.specs.Truth.{Fit}
use Rattle.std.specs.Prelude.{Ok}

-- a single value: to lie between it and itself is to equal it
pub single_value : (item value : Side) → relation_holds 8 (comparison item value) && relation_holds 9 (comparison item value) ≡ relation_holds 7 (comparison item value)
single_value item value = by (comparison item value)
  where
    by : (o : Ordering) → relation_holds 8 o && relation_holds 9 o ≡ relation_holds 7 o
    by Less = refl
    by Equal = refl
    by Greater = refl

pub every_at : (test : ℕ → Bool) (n : ℕ) → every test n ≡ true → (k : ℕ) → k < n → test k ≡ true
unfolding every
every_at test zero e k l = absurd (omega arith)
every_at test (suc n) e k l = by (ℕ_discrete k n) (every_at test n (both (every test n) (test n) e).0 k)
  where
    by : Dec (k ≡ n) → (k < n → test k ≡ true) → test k ≡ true
    by (yes q) rest = rw q (both (every test n) (test n) e).1
    by (no q) rest = rest (omega arith)

-- the side of a literal, and that of an item which the record holds, are fit to be read
module _ (lent : Lent) (tables : first_of (table_lines lent) ≡ Ok tt) where
  lines : AllSound (table_lines lent)
  lines = lines_sound (table_lines lent) tables

  pub literal_sound_lem : (l : ℕ) → l < row_count lent.literals → literal_sound lent.bytes (row_at lent.literals l) ≡ true
  literal_sound_lem l h = every_sound _ LiteralRow _ lines.1.1.1.0 l h

  pub literal_fit : (l : ℕ) → l < row_count lent.literals → Fit (literal_side lent l)
  literal_fit l h =
      let r = row_at lent.literals l in
      let f = four (row_sound r) (eqb r.kind 2 || eqb r.kind 3 || eqb r.kind 5) (lies_in r lent.bytes) (valid_content r.kind r.digits (part r lent.bytes)) (literal_sound_lem l h) in
      record { sound = f.0; sized = part_length r lent.bytes (leb-true _ _ f.2) }

  pub item_fit : (content : List ℕ) → record_check lent content ≡ Ok tt → (v : ℕ) → v < row_count lent.items → Fit (item_side lent content v)
  item_fit content holds v h =
      record {
        sound = every_sound _ ItemRow _ lines.1.0 v h;
        sized = part_length (row_at lent.items v) content (leb-true _ _ (every_sound _ Record _ holds v h));
      }

-- what a sound pair says
pub record PairFacts (lent : Lent) (item : Row) (low high : ℕ) : Type 0 where
  pub low_there : low < row_count lent.literals
  pub high_there : high < row_count lent.literals
  pub low_fits : comparable item (row_at lent.literals low) ≡ true
  pub high_fits : comparable item (row_at lent.literals high) ≡ true

pair_facts : (lent : Lent) (item : Row) (low high : ℕ) → pair_sound lent item low high ≡ true → PairFacts lent item low high
pair_facts lent item low high e =
    let last = both _ (comparable item (row_at lent.literals high)) e in
    let f = both _ (comparable item (row_at lent.literals low)) last.0 in
    let g = four (ltb low (row_count lent.literals)) (ltb high (row_count lent.literals)) _ _ f.0 in
    record { low_there = ltb-true _ _ g.0; high_there = ltb-true _ _ g.1; low_fits = f.1; high_fits = last.1 }

-- what a sound row says
module _ (lent : Lent) (tables : first_of (lent_lines lent) ≡ Ok tt) (v : ℕ) (inside : v < name_count lent.names) where
  pub name_lines : (unless (names_length_sound lent.names) (Name 0) ≡ Ok tt) × (name_sound lent v ≡ true)
  name_lines =
      let l = lines_sound _ (lines_sound (lent_lines lent) tables).1.1.1.1.0 in
      (l.0, every_sound (name_sound lent) Name (name_count lent.names) l.1.0 v inside)

  facts : (ltb (name_item lent.names v) (row_count lent.items) ≡ true) × (leb 1 (name_pairs lent.names v) ≡ true)
      × (leb (name_pairs lent.names v) 8 ≡ true) × (every (place_sound lent v) 8 ≡ true)
  facts = four _ _ _ _ name_lines.1

  pub item_there : name_item lent.names v < row_count lent.items
  item_there = ltb-true _ _ facts.0

  pub some_pairs : 1 ≤ name_pairs lent.names v
  some_pairs = leb-true _ _ facts.1

  pub few_pairs : name_pairs lent.names v ≤ 8
  few_pairs = leb-true _ _ facts.2

  pub pair_at : (k : ℕ) → k < name_pairs lent.names v
      → PairFacts lent (row_at lent.items (name_item lent.names v)) (name_low lent.names v k) (name_high lent.names v k)
  pair_at k l =
      pair_facts lent (row_at lent.items (name_item lent.names v)) (name_low lent.names v k) (name_high lent.names v k)
      (rw (lt-ltb k (name_pairs lent.names v) l) at (every_at (place_sound lent v) 8 facts.3 k (omega (arith, few_pairs))))
