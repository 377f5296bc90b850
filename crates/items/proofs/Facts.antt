-- What the lines of the table of refusals say where none applies. Assumes nothing.
use Prim.Native.Nat.{ℕ, zero, suc, ◌+◌, ◌%◌, ◌≤◌, ◌<◌}
use native.Mathlib.Omega.{arith}
use native.Mathlib.Numerals.{add-one}
use native.Mathlib.Decide.{dec_lt}
use mathlib.Core.Path.{◌≡◌, refl, sym, ap, ◌∙◌}
use mathlib.Core.List.{List, [], ◌∷◌}
use mathlib.Core.Logic.{inl, inr, ⊎_elim}
use mathlib.Core.Bool.{Bool, true, false, ◌&&◌}
use lib.ListN.{length}
use lib.Dec.{eqb, leb}
use borrow.Author.Tests.{leb-true, not-true}
use Rattle.tables.specs.declared.Refusal.TheVariants.{ItemTable, ItemRow, Overlap, Record, Room}
use Rattle.tables.specs.Rows.{row_at, row_count, row_sound, is_group, lies_in}
use Rattle.tables.specs.Operands.{lend}
use Rattle.tables.specs.Refusals.{first_of, first_failing, Check}
use Rattle.tables.specs.Tables.{table_lines}
use Rattle.tables.proofs.Tests.{both, either, or_right}
use Rattle.tables.proofs.Lines.{every_sound, lines_sound, lines_before, line_last, test_sound}
use Rattle.tables.proofs.Bytes.{RowFacts, row_facts}
use Rattle.items.specs.Items.{each_below, apart, clear_of, clear_at}
use Rattle.items.specs.Lines.{item_lines, overlap_check, long_check, room_check}
use Rattle.items.proofs.Rewriting.{Lies, Clear}
use Rattle.std.specs.Prelude.{Err, Ok}

-- a table without literals has 1 and 2 only
pub no_literals : (items : List ℕ) → first_of (table_lines (lend items [] [])) ≡ first_of (item_lines items)
unfolding first_of first_failing
no_literals items = lines_before (item_lines items) (Ok tt ∷ Ok tt ∷ []) ∙ by (first_of (item_lines items))
  where
    by : (line : Check) → first_of (line ∷ Ok tt ∷ Ok tt ∷ []) ≡ line
    by (Ok _) = refl
    by (Err refusal) = refl

-- a test of one row more
pub each_more : (test : ℕ → Bool) (u : ℕ) → each_below test (u + 1) ≡ each_below test u && test u
unfolding each_below
each_more test u = rw add-one

each_below_lem : (test : ℕ → Bool) (n : ℕ) → each_below test n ≡ true → (k : ℕ) → k < n → test k ≡ true
unfolding each_below
each_below_lem test zero e k h = absurd (omega arith)
each_below_lem test (suc n) e k h =
    let f = both (each_below test n) (test n) e in
    by (dec_lt k n) (λ g. each_below_lem test n f.0 k g) f.1
  where
    by : Dec (k < n) → (k < n → test k ≡ true) → test n ≡ true → test k ≡ true
    by (yes g) rest last = rest g
    by (no g) rest last = let q : k ≡ n = omega arith in rw q last

pub each_all : (test : ℕ → Bool) (n : ℕ) → ((k : ℕ) → k < n → test k ≡ true) → each_below test n ≡ true
unfolding each_below
each_all test zero h = refl
each_all test (suc n) h = rw (each_all test n (λ k l. h k (omega arith)), h n (omega arith))

-- 19 ruled out
pub clear_fact : (items : List ℕ) → overlap_check items ≡ Ok tt → Clear items (row_count items)
clear_fact items e u v h k eu ev =
    let at_v : clear_at items v ≡ true = every_sound (clear_at items) Overlap (row_count items) e v k in
    let below : each_below (clear_of items v) v ≡ true = or_right (is_group (row_at items v)) _ at_v (not-true _ ev) in
    let at_u : clear_of items v u ≡ true = each_below_lem (clear_of items v) v below u h in
    let free : apart (row_at items u) (row_at items v) ≡ true = or_right (is_group (row_at items u)) _ at_u (not-true _ eu) in
    ⊎_elim (λ a. inl (leb-true _ _ a)) (λ a. inr (leb-true _ _ a))
    (either (leb ((row_at items u).offset + (row_at items u).size) (row_at items v).offset) _ free)

-- 12 ruled out: every row lies in the record, groups too
pub all_lie : (items content : List ℕ) → long_check items content ≡ Ok tt → (v : ℕ) → v < row_count items
    → (row_at items v).offset + (row_at items v).size ≤ length content
all_lie items content e v h = leb-true _ _ (every_sound (λ k. lies_in (row_at items k) content) Record (row_count items) e v h)

pub lies_fact : (items content : List ℕ) → long_check items content ≡ Ok tt → Lies items (length content) (row_count items)
lies_fact items content e v h ev = all_lie items content e v h

-- 1 and 2 ruled out
module _ (items : List ℕ) (sound : first_of (item_lines items) ≡ Ok tt) where
  pub row_sound_at : (v : ℕ) → v < row_count items → row_sound (row_at items v) ≡ true
  row_sound_at v h = every_sound (λ k. row_sound (row_at items k)) ItemRow (row_count items) (lines_sound (item_lines items) sound).1.0 v h

  pub row_fact : (v : ℕ) → v < row_count items → RowFacts (row_at items v)
  row_fact v h = row_facts (row_at items v) (row_sound_at v h)

  -- a table has at most 64 rows
  pub few_fact : length items ≤ 320
  few_fact =
      leb-true _ _ (both (eqb (length items % 5) 0) (leb (length items) 320) (test_sound _ ItemTable (lines_sound (item_lines items) sound).0)).1

-- 10 ruled out
pub room_fact : (needed room : ℕ) → room_check needed room ≡ Ok tt → needed ≤ room
room_fact needed room e = leb-true needed room (test_sound (leb needed room) (Room needed) e)
