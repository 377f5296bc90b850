-- The branches of clauses and entries.
use mathlib.Core.Path.{◌≡◌, refl, sym, ap, ◌∙◌}
use mathlib.Core.Bool.{Bool, true, false, cond, ◌&&◌}
use mathlib.Core.List.{List}
use Prim.Native.Nat.{ℕ, ◌+◌, ◌/◌, ◌≤◌, min}
use native.Mathlib.Omega.{arith}
use lib.Dec.{eqb}
use lib.ListN.{get_or, length}
use Rattle.description.specs.Grammar.{bytes, ended}
use Rattle.description.specs.Stages.{inked, literal_at, sided, side_at, after_separate, after_side, after_sign, sign_at, after_packed, packed_at, usage_at}
use Rattle.description.specs.Stages.{picture_at, after_picture, after_pic, clauses_at, name_at, level_at}
use Rattle.description.specs.declared.Called.{Called}
use Rattle.description.specs.declared.Pictured.{Pictured}
use Rattle.description.specs.declared.Pictured.TheVariants as Pictured
use Rattle.description.specs.declared.Sided.{Sided}
use Rattle.description.specs.declared.Clauses.{Clauses}
use Rattle.description.proofs.Bytes.{eqb_no}
use Rattle.pictures.specs.Steps as Steps
use Rattle.pictures.specs.Drawings.{cap_pictured}
use Rattle.entries.specs.Entries.{cap, cap_clauses, item_of, cap_entry, noted}
use Rattle.entries.specs.declared.EntryRead.{EntryRead}
use Rattle.entries.specs.declared.EntryRead.TheVariants.{Whole}
use Rattle.std.specs.Prelude.{Err, Ok, Result}

-- a picture's count, as the code has it
abbrev count : ℕ → ℕ
count n = Steps.cap n

-- What holds of a value that is known by another name.
pub via : {A B : Type 0} (f : A → B) {x y v : A} {r : B} → x ≡ y → x ≡ v → r ≡ f v → r ≡ f y
via f e h g = let i = sym e ∙ h in rw i g

pub known : {A : Type 0} (P : A → Type 0) {x y v : A} → x ≡ y → x ≡ v → P y → P v
known P e h g = let i = sym h ∙ e in rw i g

-- SIGN or COMP-3
pub sign_is : (s : Bool) (i j : ℕ) (text : List ℕ) (n : ℕ) {b p : ℕ} {r : Result Clauses ℕ} → p ≡ inked text n → b ≡ get_or text p 0 → s && eqb b 0x53 ≡ true → r ≡ cap_clauses (sign_at i j text n) →
    r ≡ cap_clauses (usage_at s i j text n)
unfolding usage_at
sign_is s i j text n {b} e f h k = let q : s && eqb (get_or text (inked text n) 0) 0x53 ≡ true = rw (← e, ← f) h in rw q k

pub packed_is : (s : Bool) (i j : ℕ) (text : List ℕ) (n : ℕ) {b p : ℕ} {r : Result Clauses ℕ} → p ≡ inked text n → b ≡ get_or text p 0 → s && eqb b 0x53 ≡ false →
    r ≡ cap_clauses (packed_at s i j text n) → r ≡ cap_clauses (usage_at s i j text n)
unfolding usage_at
packed_is s i j text n {b} e f h k = let q : s && eqb (get_or text (inked text n) 0) 0x53 ≡ false = rw (← e, ← f) h in rw q k

-- A picture's counts that stop give the same.
cap-count : (n : ℕ) → cap (count n) ≡ cap n
cap-count n = omega arith

cap-digits : (i j : ℕ) → cap (count i + count j) ≡ cap (i + j)
cap-digits i j = omega arith

cap_separate : (i j : ℕ) → cap (count i + count j + 1) ≡ cap (i + j + 1)
cap_separate i j = omega arith

-- 131,072 digits take 65,537 bytes
cap-packed : (i j : ℕ) → cap ((count i + count j) / 2 + 1) ≡ cap ((i + j) / 2 + 1)
cap-packed i j = omega arith

module _ (i j : ℕ) (text : List ℕ) where
  sign_caps : (n : ℕ) → cap_clauses (sign_at (count i) (count j) text n) ≡ cap_clauses (sign_at i j text n)
  unfolding sign_at
  sign_caps n = by (literal_at (bytes "SIGN") text n)
    where
      last : (c : ℕ) (x : Result ℕ ℕ) → cap_clauses (after_separate c (count i) (count j) x) ≡ cap_clauses (after_separate c i j x)
      last c (Ok k) = rw (cap_separate i j, cap-count j, cap-digits i j)
      last c (Err k) = refl

      side : (x : Result Sided ℕ) → cap_clauses (after_side text (count i) (count j) x) ≡ cap_clauses (after_side text i j x)
      side (Ok s) = last s.kind (literal_at (ended (bytes "SEPARATE")) text s.end)
      side (Err k) = refl

      by : (x : Result ℕ ℕ) → cap_clauses (after_sign text (count i) (count j) x) ≡ cap_clauses (after_sign text i j x)
      by (Ok k) = side (side_at text k)
      by (Err k) = refl

  packed_caps : (s : Bool) (n : ℕ) → cap_clauses (packed_at s (count i) (count j) text n) ≡ cap_clauses (packed_at s i j text n)
  unfolding packed_at
  packed_caps s n = by (literal_at (ended (bytes "COMP-3")) text n)
    where
      by : (x : Result ℕ ℕ) → cap_clauses (after_packed s (count i) (count j) x) ≡ cap_clauses (after_packed s i j x)
      by (Ok k) = rw (cap-packed i j, cap-count j, cap-digits i j)
      by (Err k) = refl

  usage_caps : (s : Bool) (n : ℕ) → cap_clauses (usage_at s (count i) (count j) text n) ≡ cap_clauses (usage_at s i j text n)
  unfolding usage_at
  usage_caps s n = by (s && eqb (get_or text (inked text n) 0) 0x53)
    where
      by : (t : Bool) → cap_clauses (cond t (sign_at (count i) (count j) text n) (packed_at s (count i) (count j) text n)) ≡ cap_clauses
          (cond t (sign_at i j text n) (packed_at s i j text n))
      by true = sign_caps n
      by false = packed_caps s n

pub number_is : (text : List ℕ) {s : Bool} {i j k : ℕ} {x : Result Pictured ℕ} {r : Result Clauses ℕ} (y : Result Pictured ℕ) → x ≡ cap_pictured y → x ≡ Ok (Pictured.Number s i j k) → r ≡ cap_clauses
    (usage_at s i j text k) → r ≡ cap_clauses (after_picture text y)
number_is text {s} {i} {j} {k} {r = r} y e f g = g ∙ by y (sym f ∙ e)
  where
    by : (y : Result Pictured ℕ) → Ok (Pictured.Number s i j k) ≡ cap_pictured y → cap_clauses (usage_at s i j text k) ≡ cap_clauses (after_picture text y)
    by (Ok (Pictured.Ended y)) h = let z : ◌≡◌ {A = ℕ} 0 1 = cc in absurd (omega arith)
    by (Ok (Pictured.Number s' a b k')) h =
        let o : s ≡ s' = cc in
        let p : i ≡ count a = cc in
        let q : j ≡ count b = cc in
        let u : k ≡ k' = cc in
        rw (o, p, q, u) (usage_caps a b text s' k')
    by (Err k') h = let z : ◌≡◌ {A = ℕ} 0 1 = cc in absurd (omega arith)

pub number_small : {s : Bool} {i j k : ℕ} {x : Result Pictured ℕ} (y : Result Pictured ℕ) → x ≡ cap_pictured y → x ≡ Ok (Pictured.Number s i j k) → (i ≤ 131072) × (j ≤ 131072)
number_small {s} {i} {j} {k} y e f = by y (sym f ∙ e)
  where
    by : (y : Result Pictured ℕ) → Ok (Pictured.Number s i j k) ≡ cap_pictured y → (i ≤ 131072) × (j ≤ 131072)
    by (Ok (Pictured.Ended y)) h = let z : ◌≡◌ {A = ℕ} 0 1 = cc in absurd (omega arith)
    by (Ok (Pictured.Number s' a b k')) h =
        let p : i ≡ count a = cc in
        let q : j ≡ count b = cc in
        (omega arith, omega arith)
    by (Err k') h = let z : ◌≡◌ {A = ℕ} 0 1 = cc in absurd (omega arith)
