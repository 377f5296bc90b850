-- A number parted at its point, as code finds it.
use mathlib.Core.Path.{◌≡◌, refl, ap}
use mathlib.Core.Bool.{Bool, true, false, cond}
use mathlib.Core.List.{List, [], ◌∷◌, ◌++◌}
use Prim.Native.Nat.{ℕ, suc, ◌+◌, ◌-◌, ◌≤◌, ◌<◌}
use native.Mathlib.Omega.{arith}
use native.Mathlib.Numerals.{add-one}
use lib.ListN.{length, get_or, take, drop, length-drop, drop_of_length-le}
use lib.Seq.{drop-cons, take_all}
use borrow.Author.Tests.{ne_eqb}
use Rattle.spelling.specs.Literals.{is_point, without_point, after_point, point_place}

pub place-ended : (word : List ℕ) (i : ℕ) → length word ≤ i → point_place (drop i word) ≡ 0
unfolding point_place
place-ended word i h = rw (drop_of_length-le word h)

pub place_here : (word : List ℕ) (i : ℕ) → i < length word → get_or word i 0 ≡ 0x2e → point_place (drop i word) ≡ 0
unfolding point_place
place_here word i h e = rw (drop-cons word i 0 h, e)

pub place_on : (word : List ℕ) (i : ℕ) → i < length word → (get_or word i 0 ≡ 0x2e → ⊥) → point_place (drop i word) ≡ suc (point_place (drop (i + 1) word))
unfolding point_place
place_on word i h e = rw (add-one, drop-cons word i 0 h, ne_eqb (get_or word i 0) 0x2e e)

pub place-within : (word : List ℕ) → point_place word ≤ length word
unfolding point_place
place-within [] = omega arith
place-within (b ∷ word) = by (is_point b) (place-within word)
  where
    by : (t : Bool) → point_place word ≤ length word → cond t 0 (suc (point_place word)) ≤ suc (length word)
    by true h = omega arith
    by false h = omega arith

pub point_out : (word : List ℕ) → without_point word ≡ take (point_place word) word ++ drop (suc (point_place word)) word
unfolding without_point point_place
point_out [] = refl
point_out (b ∷ word) = by (is_point b) (point_out word)
  where
    by : (t : Bool) → without_point word ≡ take (point_place word) word ++ drop (suc (point_place word)) word
        → cond t word (b ∷ without_point word)
        ≡ take (cond t 0 (suc (point_place word))) (b ∷ word) ++ drop (suc (cond t 0 (suc (point_place word)))) (b ∷ word)
    by true h = refl
    by false h = ap (λ (v : List ℕ). b ∷ v) h

pub point_after_lem : (word : List ℕ) → after_point word ≡ drop (suc (point_place word)) word
unfolding after_point point_place
point_after_lem [] = refl
point_after_lem (b ∷ word) = by (is_point b) (point_after_lem word)
  where
    by : (t : Bool) → after_point word ≡ drop (suc (point_place word)) word
        → cond t word (after_point word) ≡ drop (suc (cond t 0 (suc (point_place word)))) (b ∷ word)
    by true h = refl
    by false h = h

-- the part that is lent
pub rest_after : (word : List ℕ) (at : ℕ) → take (length word - (at + 1)) (drop (at + 1) word) ≡ drop (suc at) word
rest_after word at = rw add-one (take_all (length word - suc at) (drop (suc at) word) (omega (arith, length-drop (suc at) word)))
