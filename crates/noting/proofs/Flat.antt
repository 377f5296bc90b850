-- Entries in a buffer.
use mathlib.Core.Path.{◌≡◌, refl, sym, ap, ◌∙◌}
use mathlib.Core.Bool.{Bool, true}
use mathlib.Core.List.{List, [], ◌∷◌, ◌++◌, append_assoc}
use Prim.Native.Nat.{ℕ, zero, suc, ◌+◌, ◌*◌, ◌-◌, ◌≤◌, ◌<◌}
use native.Mathlib.Omega.{arith}
use lib.ListN.{length, get_or, take, drop, set, length-take, length-set, drop_of_length-le, get_or-append}
use lib.Seq.{sets, sets-eq, get_or-append-add, get_or-take, length-take-le, length-sets, drop-cons}
use Rattle.description.specs.Grammar.{is_blank}
use Rattle.description.specs.Stages.{parted}
use Rattle.entries.specs.declared.Noted.{Noted}
use Rattle.entries.specs.Entries.{noted}
use Rattle.noting.specs.Stored.{numbers_of, noted_at, noted_from, pushed}

module _ (flat : List ℕ) (i : ℕ) (x : Noted) (l : i * 7 + 6 < length flat) where
  abbrev pub stored : List ℕ
  stored = sets flat (i * 7) (numbers_of x)

  parts : stored ≡ take (i * 7) flat ++ numbers_of x ++ drop (i * 7 + 7) flat
  parts = sets-eq (numbers_of x) flat (i * 7) (omega arith)

  front : length (take (i * 7) flat) ≡ i * 7
  front = length-take-le (i * 7) flat (omega arith)

  -- below it nothing changes
  pub kept : (m : ℕ) → m < i * 7 → get_or stored m 0 ≡ get_or flat m 0
  kept m h =
      rw (parts, append_assoc (take (i * 7) flat) (numbers_of x) (drop (i * 7 + 7) flat))
      (get_or-append (take (i * 7) flat) (numbers_of x ++ drop (i * 7 + 7) flat) 0 m (omega (arith, front)) ∙ get_or-take (i * 7) flat m 0 h)

  there : (k : ℕ) → get_or stored (i * 7 + k) 0 ≡ get_or (numbers_of x ++ drop (i * 7 + 7) flat) k 0
  there k =
      let z : i * 7 + k ≡ length (take (i * 7) flat) + k = omega (arith, front) in
      rw (parts, append_assoc (take (i * 7) flat) (numbers_of x) (drop (i * 7 + 7) flat), z)
      (get_or-append-add (take (i * 7) flat) (numbers_of x ++ drop (i * 7 + 7) flat) k 0)

  pub held_there : noted_at stored i ≡ x
  held_there =
      let z : i * 7 + 0 ≡ i * 7 = omega arith in
      let a : get_or stored (i * 7) 0 ≡ x.level = rw z at (there 0) in
      rw (a, there 1, there 2, there 3, there 4, there 5, there 6)

pub noted-length : (flat : List ℕ) (i n : ℕ) → length (noted_from flat i n) ≡ n
unfolding noted_from
noted-length flat i zero = refl
noted-length flat i (suc n) = ap suc (noted-length flat (suc i) n)

-- The same numbers, the same entries.
pub noted-same : (l k : List ℕ) (i n : ℕ) → ((m : ℕ) → m < (i + n) * 7 → get_or l m 0 ≡ get_or k m 0) → noted_from l i n ≡ noted_from k i n
unfolding noted_from
noted-same l k i zero f = refl
noted-same l k i (suc n) f =
    let z : (i + suc n) * 7 ≡ (suc i + n) * 7 = omega arith in
    rw (
      f (i * 7) (omega arith),
      f (i * 7 + 1) (omega arith),
      f (i * 7 + 2) (omega arith),
      f (i * 7 + 3) (omega arith),
      f (i * 7 + 4) (omega arith),
      f (i * 7 + 5) (omega arith),
      f (i * 7 + 6) (omega arith),
      noted-same l k (suc i) n (λ m h. f m (omega arith)),
    )

-- One entry more.
pub noted_snoc : (l : List ℕ) (i n : ℕ) → noted_from l i (suc n) ≡ noted_from l i n ++ noted_at l (i + n) ∷ []
unfolding noted_from
noted_snoc l i zero = let z : i + 0 ≡ i = omega arith in rw z
noted_snoc l i (suc n) =
    let z : suc i + n ≡ i + suc n = omega arith in
    ap (λ (r : List Noted). noted_at l i ∷ r) (noted_snoc l (suc i) n ∙ rw z)

-- Stores one after the other.
pub stores : (l : List ℕ) (a : ℕ) (x : Noted) →
    set (set (set (set (set (set (set l a x.level) (a + 1) x.place) (a + 2) x.named) (a + 3) x.kind) (a + 4) x.size) (a + 5) x.scale) (a + 6) x.digits
    ≡ sets l a (numbers_of x)
stores l a x =
    let b : a + 1 ≡ suc a = omega arith in
    let c : a + 2 ≡ suc (suc a) = omega arith in
    let d : a + 3 ≡ suc (suc (suc a)) = omega arith in
    let e : a + 4 ≡ suc (suc (suc (suc a))) = omega arith in
    let f : a + 5 ≡ suc (suc (suc (suc (suc a)))) = omega arith in
    let g : a + 6 ≡ suc (suc (suc (suc (suc (suc a))))) = omega arith in
    rw (b, c, d, e, f, g)

pub push_some : (stack : List ℕ) (d l : ℕ) → ¬ (d ≡ 0) → set stack (d - 1) l ≡ pushed stack d l
push_some stack zero l h = absurd (h refl)
push_some stack (suc d) l h = let z : suc d - 1 ≡ d = omega arith in rw z

pub parted_end : (text : List ℕ) (k : ℕ) → length text ≤ k → true ≡ parted (drop k text)
parted_end text k l = rw (drop_of_length-le text l)

pub parted_byte : (text : List ℕ) (k : ℕ) {r : Bool} → k < length text → r ≡ is_blank (get_or text k 0) → r ≡ parted (drop k text)
parted_byte text k l e = rw (drop-cons text k 0 l) e
