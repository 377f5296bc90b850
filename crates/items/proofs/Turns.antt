-- Rows that lie one after the other overlap nothing: one pass tells it. Assumes nothing.
use Prim.Native.Nat.{ℕ, ◌+◌, ◌≤◌, ◌<◌}
use native.Mathlib.Omega.{arith}
use native.Mathlib.Decide.{dec_lt}
use mathlib.Core.Path.{◌≡◌, refl, sym, ap, ◌∙◌}
use mathlib.Core.List.{List}
use mathlib.Core.Bool.{Bool, true, false, not, ◌&&◌, ◌||◌, true≢false}
use lib.Dec.{leb}
use borrow.Author.Tests.{le-leb, leb-true, not-true, not-false}
use Rattle.tables.specs.declared.Refusal.TheVariants.{Overlap}
use Rattle.content.specs.declared.Row.{Row}
use Rattle.tables.proofs.Tests.{both}
use Rattle.tables.specs.Rows.{row_at, row_count, is_group}
use Rattle.tables.proofs.Lines.{failing_none}
use Rattle.items.specs.Items.{clear_of, clear_at}
use Rattle.items.specs.Lines.{overlap_check}
use Rattle.items.proofs.Facts.{each_all}
use Rattle.std.specs.Prelude.{Ok}

-- the elementary ones of the first v rows end by `end`, and none of those rows overlaps an earlier one
pub record InTurn (items : List ℕ) (v end : ℕ) : Type 0 where
  pub ends : (u : ℕ) → u < v → is_group (row_at items u) ≡ false → (row_at items u).offset + (row_at items u).size ≤ end
  pub clear : (u : ℕ) → u < v → clear_at items u ≡ true

pub turn_none : (items : List ℕ) → InTurn items 0 0
turn_none items = record { ends = λ u l e. absurd (omega arith); clear = λ u l. absurd (omega arith) }

module _ {items : List ℕ} {v end : ℕ} (t : InTurn items v end) where
  -- a group more
  pub turn-group : is_group (row_at items v) ≡ true → InTurn items (v + 1) end
  turn-group g = record { ends = λ u l e. by_ends u l e (dec_lt u v); clear = λ u l. by_clear u l (dec_lt u v) }
    where
      by_ends : (u : ℕ) → u < v + 1 → is_group (row_at items u) ≡ false → Dec (u < v) → (row_at items u).offset + (row_at items u).size ≤ end
      by_ends u l e (yes h) = t.ends u h e
      by_ends u l e (no h) = let q : u ≡ v = omega arith in absurd (true≢false (sym g ∙ rw (← q) e))

      by_clear : (u : ℕ) → u < v + 1 → Dec (u < v) → clear_at items u ≡ true
      by_clear u l (yes h) = t.clear u h
      by_clear u l (no h) = let q : u ≡ v = omega arith in rw (q, g)

  -- an elementary row more, behind all before it
  module _ (g : is_group (row_at items v) ≡ false) (behind : end ≤ (row_at items v).offset) where
    clear_of_lem : (u : ℕ) → u < v → clear_of items v u ≡ true
    clear_of_lem u l = by (is_group (row_at items u)) refl
      where
        by : (b : Bool) → is_group (row_at items u) ≡ b → clear_of items v u ≡ true
        by true e = rw e
        by false e = let a = le-leb ((row_at items u).offset + (row_at items u).size) (row_at items v).offset (omega (arith, t.ends u l e)) in rw (e, a)

    pub turn-row : InTurn items (v + 1) ((row_at items v).offset + (row_at items v).size)
    turn-row = record { ends = λ u l e. by_ends u l e (dec_lt u v); clear = λ u l. by_clear u l (dec_lt u v) }
      where
        by_ends : (u : ℕ) → u < v + 1 → is_group (row_at items u) ≡ false → Dec (u < v) →
            (row_at items u).offset + (row_at items u).size ≤ (row_at items v).offset + (row_at items v).size
        by_ends u l e (yes h) = omega (arith, t.ends u h e)
        by_ends u l e (no h) = let q : u ≡ v = omega arith in rw q (omega arith)

        by_clear : (u : ℕ) → u < v + 1 → Dec (u < v) → clear_at items u ≡ true
        by_clear u l (yes h) = t.clear u h
        by_clear u l (no h) = let q : u ≡ v = omega arith in rw (q, g) (each_all (clear_of items v) v clear_of_lem)

pub turn-all : {items : List ℕ} {v end : ℕ} → InTurn items v end → row_count items ≤ v → overlap_check items ≡ Ok tt
turn-all {items} t l = failing_none (clear_at items) Overlap 0 (row_count items) (λ k h m. t.clear k (omega arith))

-- the same of what the code holds, where the rows before lie in turn
module _ {items : List ℕ} {v end : ℕ} {before : Bool} (t : before ≡ true → InTurn items v end) {row : Row} (r : row ≡ row_at items v) {group : Bool}
    (g : group ≡ is_group row) where
  pub group_in_turn : not group ≡ false → {after : Bool} {last : ℕ} → after ≡ before → last ≡ end → after ≡ true → InTurn items (v + 1) last
  group_in_turn f a l e = rw l (turn-group (t (sym a ∙ e)) (ap is_group (sym r) ∙ sym g ∙ not-false group f))

  pub row_in-turn : not group ≡ true → {starts start size : ℕ} → starts ≡ row.offset → start ≡ row.offset → size ≡ row.size →
      {after : Bool} {last : ℕ} → after ≡ before && leb end starts → last ≡ start + size → after ≡ true → InTurn items (v + 1) last
  row_in-turn f {starts} o p q a l e =
      let b = both before (leb end starts) (sym a ∙ e) in
      rw (l, p, q, r) (turn-row (t b.0) (ap is_group (sym r) ∙ sym g ∙ not-true group f) (rw (o, r) at (leb-true end starts b.1)))
