-- Each word stands between its start and the next one's: one test over all of them.
use mathlib.Core.Path.{◌≡◌, refl, sym, ap, ◌∙◌}
use mathlib.Core.Bool.{Bool, true, false, cond, ◌&&◌}
use mathlib.Core.List.{List, [], ◌∷◌, ◌++◌}
use Prim.Native.Nat.{ℕ, zero, suc, ◌+◌, ◌-◌, ◌≤◌, ◌<◌}
use native.Mathlib.Omega.{arith}
use native.Mathlib.Numerals.{add-one}
use native.Mathlib.Decide.{ℕ_discrete}
use lib.Dec.{eqb, leb}
use lib.ListN.{length, get_or, take, drop, length-drop, length-take, drop_of_length-le}
use lib.Seq.{drop-cons}
use borrow.Author.Tests.{leb-true, eqb-true}
use Rattle.description.specs.Grammar.{same}
use Rattle.tables.proofs.Tests.{both}
use Rattle.spelling.specs.Meanings.{position}
use Rattle.spelling.proofs.Cutting.{same_true}
use Rattle.vocabulary.specs.Spellings.{spelt, joined, starts}

unfoldable pub all_below : ℕ → (ℕ → Bool) → Bool
all_below zero test = true
all_below (suc n) test = test n && all_below n test

pub below : (n : ℕ) (test : ℕ → Bool) → all_below n test ≡ true → (k : ℕ) → k < n → test k ≡ true
unfolding all_below
below zero test e k h = absurd (omega arith)
below (suc n) test e k h = elim (ℕ_discrete k n) [
  | yes q ↦ rw q (both (test n) (all_below n test) e).0
  | no q ↦ below n test (both (test n) (all_below n test) e).1 k (omega arith)
]

position_here : (w v : List ℕ) (vs : List (List ℕ)) → same w v ≡ true → position w (v ∷ vs) ≡ 0
unfolding position
position_here w v vs e = rw e

position_on : (w v : List ℕ) (vs : List (List ℕ)) → same w v ≡ false → position w (v ∷ vs) ≡ suc (position w vs)
unfolding position
position_on w v vs e = rw e

-- the bytes from a start to the next
abbrev cell : ℕ → List ℕ
cell k = take (get_or starts (k + 1) 0 - get_or starts k 0) (drop (get_or starts k 0) (joined spelt))

abbrev right : ℕ → Bool
right k = same (cell k) (get_or spelt k []) && leb (get_or starts k 0) (get_or starts (k + 1) 0) && leb (get_or starts (k + 1) 0) (length (joined spelt))

all_right : all_below 28 right ≡ true
unfolding all_below same
all_right = refl

module _ (k : ℕ) (h : k < 28) where
  facts : (same (cell k) (get_or spelt k []) ≡ true) × (get_or starts k 0 ≤ get_or starts (k + 1) 0) × (get_or starts (k + 1) 0 ≤ length (joined spelt))
  facts =
      let r = below 28 right all_right k h in
      let a = both (same (cell k) (get_or spelt k []) && leb (get_or starts k 0) (get_or starts (k + 1) 0)) (leb (get_or starts (k + 1) 0) (length (joined spelt))) r in
      let b = both (same (cell k) (get_or spelt k [])) (leb (get_or starts k 0) (get_or starts (k + 1) 0)) a.0 in
      (b.0, leb-true _ _ b.1, leb-true _ _ a.1)

  pub rises : get_or starts k 0 ≤ get_or starts (k + 1) 0
  rises = facts.1

  pub ends : get_or starts (k + 1) 0 ≤ length (joined spelt)
  ends = facts.2

  pub cell_is : cell k ≡ get_or spelt k []
  cell_is = same_true (cell k) (get_or spelt k []) facts.0

  pub cell_size : get_or starts (k + 1) 0 - get_or starts k 0 ≡ length (get_or spelt k [])
  cell_size =
      let s : ℕ = get_or starts k 0 in
      let e : ℕ = get_or starts (k + 1) 0 in
      omega (arith, ap length cell_is, length-take (e - s) (drop s (joined spelt)), length-drop s (joined spelt), rises, ends)

  -- the number of a word
  pub word_here : (w : List ℕ) → same w (get_or spelt k []) ≡ true → position w (drop k spelt) ≡ 0
  word_here w e = ap (position w) (drop-cons spelt k [] h) ∙ position_here w (get_or spelt k []) (drop (suc k) spelt) e

  pub word_later : (w : List ℕ) → same w (get_or spelt k []) ≡ false → position w (drop k spelt) ≡ suc (position w (drop (k + 1) spelt))
  word_later w e =
      ap (position w) (drop-cons spelt k [] h)
      ∙ position_on w (get_or spelt k []) (drop (suc k) spelt) e
      ∙ ap (λ (n : ℕ). suc (position w (drop n spelt))) (sym (add-one k))

  -- by the starts that code found
  module _ (s e : ℕ) (from : s ≡ get_or starts k 0) (to : e ≡ get_or starts (k + 1) 0) where
    pub fits : (s ≤ e) × (e ≤ 150)
    fits = rw (from, to) (rises, ends)

    pub part_is : take (e - s) (drop s (joined spelt)) ≡ get_or spelt k []
    part_is = rw (from, to) cell_is

    pub size_is : e - s ≡ length (get_or spelt k [])
    size_is = rw (from, to) cell_size

pub word_none : (k : ℕ) → 28 ≤ k → (w : List ℕ) → position w (drop k spelt) ≡ 0
unfolding position
word_none k h w = ap (position w) (drop_of_length-le spelt h)
