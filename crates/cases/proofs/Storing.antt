-- Numbers of a store, one after the other.
use mathlib.Core.Path.{◌≡◌, refl, sym, ap, ◌∙◌}
use mathlib.Core.List.{List, [], ◌∷◌}
use Prim.Native.Nat.{ℕ, zero, suc, ◌+◌, ◌-◌, ◌≤◌, ◌<◌}
use native.Mathlib.Omega.{arith}
use native.Mathlib.Numerals.{add-one}
use borrow.Author.Tests.{lt-ltb, le-ltb}
use lib.ListN.{length, take, drop, get_or, set, drop_of_length-le}
use lib.Seq.{drop-cons}
use Rattle.cases.specs.Stores.{number_at, place_of, part_in, pushed, pushed_all, again_from, times_more}

-- beyond the end
pub none_there : (l : List ℕ) (i : ℕ) → length l ≤ i → 0 ≡ get_or l i 0
none_there [] i h = refl
none_there (x ∷ l) zero h = absurd (omega arith)
none_there (x ∷ l) (suc i) h = none_there l i (omega arith)

pub none_set : (l : List ℕ) (i a : ℕ) → length l ≤ i → l ≡ set l i a
none_set [] i a h = refl
none_set (x ∷ l) zero a h = absurd (omega arith)
none_set (x ∷ l) (suc i) a h = ap (λ (r : List ℕ). x ∷ r) (none_set l i a (omega arith))

module _ (store : List ℕ) (part number count : ℕ) (e : count ≡ number_at store part) where
  pub pushes : (at : ℕ) {one two : List ℕ} → at ≡ place_of part count → count < 2047 → one ≡ set store at number → two ≡ set one part (count + 1)
      → two ≡ pushed store part number
  pushes at p h o t = t ∙ ap (λ (l : List ℕ). set l part (count + 1)) (o ∙ ap (λ (k : ℕ). set store k number) p) ∙ rw (← e, lt-ltb count 2047 h)

  pub pushes_none : 2047 ≤ count → store ≡ pushed store part number
  pushes_none h = rw (← e, le-ltb count 2047 h)

module _ (part : ℕ) (end : ℕ) where
  pub once_more : (store after : List ℕ) (i at number : ℕ) → i < end → at ≡ place_of part i → number ≡ number_at store at → after ≡ pushed store part number
      → again_from after part (i + 1) (end - (i + 1)) ≡ again_from store part i (end - i)
  unfolding again_from
  once_more store after i at number h p n a =
      let left : end - i ≡ suc (end - (i + 1)) = omega arith in
      let same : after ≡ pushed store part (number_at store (place_of part i)) = a ∙ ap (pushed store part) (n ∙ ap (number_at store) p) in
      ap (λ (l : List ℕ). again_from l part (i + 1) (end - (i + 1))) same ∙ sym (ap (again_from store part i) left)

  pub no_more : (store : List ℕ) (i : ℕ) → end ≤ i → again_from store part i (end - i) ≡ store
  unfolding again_from
  no_more store i h = let none : end - i ≡ 0 = omega arith in ap (again_from store part i) none

module _ (part from count times : ℕ) where
  pub one_time : (store after : List ℕ) (done : ℕ) → done < times → after ≡ again_from store part from count
      → times_more after part from count (times - (done + 1)) ≡ times_more store part from count (times - done)
  unfolding times_more
  one_time store after done h a =
      let left : times - done ≡ suc (times - (done + 1)) = omega arith in
      ap (λ (l : List ℕ). times_more l part from count (times - (done + 1))) a ∙ sym (ap (times_more store part from count) left)

  pub all_times : (store : List ℕ) (done : ℕ) → times ≤ done → times_more store part from count (times - done) ≡ store
  unfolding times_more
  all_times store done h = let none : times - done ≡ 0 = omega arith in ap (times_more store part from count) none

module _ (part : ℕ) (numbers : List ℕ) where
  pub keeps_one : (store after : List ℕ) (i : ℕ) → i < length numbers → after ≡ pushed store part (get_or numbers i 0)
      → pushed_all after part (drop (i + 1) numbers) ≡ pushed_all store part (drop i numbers)
  unfolding pushed_all
  keeps_one store after i h a = rw (add-one i, a, drop-cons numbers i 0 h)

  pub keeps_all : (store : List ℕ) (i : ℕ) → length numbers ≤ i → pushed_all store part (drop i numbers) ≡ store
  unfolding pushed_all
  keeps_all store i h = ap (pushed_all store part) (drop_of_length-le numbers {i = i} h)

pub no_part : (store : List ℕ) (part : ℕ) → length store ≤ part → [] ≡ part_in store part
no_part store part h = sym (ap (take (number_at store part)) (drop_of_length-le store {i = part + 1} (omega arith)) ∙ none (number_at store part))
  where
    none : (n : ℕ) → ◌≡◌ {A = List ℕ} (take n []) []
    none zero = refl
    none (suc n) = refl
