-- Laws of the search for the elementary row that starts next. Assumes nothing.
use Prim.Native.Nat.{ℕ, zero, suc, ◌+◌, ◌≤◌, ◌<◌}
use native.Mathlib.Omega.{arith}
use native.Mathlib.Decide.{dec_lt}
use mathlib.Core.Path.{◌≡◌, refl, sym, ap, ◌∙◌}
use mathlib.Core.List.{List, ◌++◌}
use mathlib.Core.Logic.{◌⊎◌, inl, inr, ⊎_elim}
use mathlib.Core.Bool.{Bool, true, false, ◌&&◌}
use lib.Dec.{leb, ltb}
use borrow.Author.Tests.{leb-true, ltb-true, ltb-false, le-leb}
use Rattle.tables.specs.Rows.{row_at, row_count}
use Rattle.tables.proofs.Tests.{both}
use Rattle.items.specs.Items.{elementary_at}
use Rattle.mending.specs.Mend.{changes_from}
use Rattle.mender.specs.Walks.{Next}
use lib.ListN.{length, length-append}

-- of the first v rows, the one that starts next, and where
pub record Nearest (items : List ℕ) (at n v best nearest : ℕ) : Type 0 where
  pub within : v ≤ n
  pub found : ((best < v) × (elementary_at items best ≡ true) × (at ≤ (row_at items best).offset) × (nearest ≡ (row_at items best).offset))
      ⊎ ((best ≡ n) × (nearest ≡ 65536))
  pub least : (u : ℕ) → u < v → elementary_at items u ≡ true → at ≤ (row_at items u).offset → nearest ≤ (row_at items u).offset

pub nearest_start : (items : List ℕ) (at n : ℕ) → Nearest items at n 0 n 65536
nearest_start items at n = record { within = omega arith; found = inr (refl, refl); least = λ u h. absurd (omega arith) }

module _ {items : List ℕ} {at n v best nearest : ℕ} (s : Nearest items at n v best nearest) (there : v < n) where
  pub nearest_hit : (start : ℕ) → start ≡ (row_at items v).offset
      → elementary_at items v && leb at (row_at items v).offset && ltb (row_at items v).offset nearest ≡ true → Nearest items at n (v + 1) v start
  nearest_hit start p e =
      let f = both (elementary_at items v && leb at (row_at items v).offset) (ltb (row_at items v).offset nearest) e in
      let g = both (elementary_at items v) (leb at (row_at items v).offset) f.0 in
      let closer : (row_at items v).offset < nearest = ltb-true _ _ f.1 in
      record {
        within = omega arith;
        found = inl (omega arith, g.0, leb-true _ _ g.1, p);
        least = λ u h k l. by u (dec_lt u v) closer h k l;
      }
    where
      by : (u : ℕ) → Dec (u < v) → (row_at items v).offset < nearest → u < v + 1 → elementary_at items u ≡ true → at ≤ (row_at items u).offset
          → start ≤ (row_at items u).offset
      by u (yes a) closer h k l = omega (arith, s.least u a k l)
      by u (no a) closer h k l = let z : u ≡ v = omega arith in omega (arith, ap (λ (w : ℕ). (row_at items w).offset) z)

  pub nearest_miss : elementary_at items v && leb at (row_at items v).offset && ltb (row_at items v).offset nearest ≡ false
      → Nearest items at n (v + 1) best nearest
  nearest_miss e =
      record {
        within = omega arith;
        found = ⊎_elim (λ a. inl (omega arith, a.1, a.2, a.3)) (λ a. inr a) s.found;
        least = λ u h k l. by u (dec_lt u v) h k l;
      }
    where
      own : elementary_at items v ≡ true → at ≤ (row_at items v).offset → nearest ≤ (row_at items v).offset
      own k l = ltb-false _ _ (rw (k, le-leb at (row_at items v).offset l) at e)

      by : (u : ℕ) → Dec (u < v) → u < v + 1 → elementary_at items u ≡ true → at ≤ (row_at items u).offset → nearest ≤ (row_at items u).offset
      by u (yes a) h k l = s.least u a k l
      by u (no a) h k l =
          let z : u ≡ v = omega arith in
          let k' : elementary_at items v ≡ true = rw z at k in
          let l' : at ≤ (row_at items v).offset = rw z at l in
          omega (arith, own k' l', ap (λ (w : ℕ). (row_at items w).offset) z)

pub nearest_end : {items : List ℕ} {at v best nearest : ℕ} → Nearest items at (row_count items) v best nearest → row_count items ≤ v
    → ((u : ℕ) → u < row_count items → (row_at items u).offset ≤ 65535) → Next items at best
nearest_end {items} {at} {v} {best} {nearest} s h near =
    let w = s.within in
    ⊎_elim
    (λ a. record {
      within = omega arith;
      starts = λ k. (a.1, a.2);
      least = λ u k e l. (omega arith, omega (arith, a.3, s.least u (omega arith) e l));
    })
    (λ a. record {
      within = omega arith;
      starts = λ k. absurd (omega arith);
      least = λ u k e l. absurd (omega (arith, s.least u (omega arith) e l, near u k));
    })
    s.found

-- a count of changes, of equal parts
pub count_from : {a b : ℕ} {o p m n : List ℕ} → a ≡ b → o ≡ p → m ≡ n → length (changes_from a o m) ≡ length (changes_from b p n)
count_from p q r = cc

-- a buffer whose beginning was lent and given back
pub prefix-fits : (own rest : List ℕ) (k : ℕ) → length own ≡ k → k ≤ length (own ++ rest)
prefix-fits own rest k e = omega (arith, length-append own rest)

pub changes_of : {a b : ℕ} {o p m n : List ℕ} → a ≡ b → o ≡ p → m ≡ n → changes_from a o m ≡ changes_from b p n
changes_of p q r = cc

pub fits_from : {x y n : ℕ} → x ≡ y → y ≤ n → x ≤ n
fits_from e h = omega arith
