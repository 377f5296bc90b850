-- The test whether two strings of bytes are the same: it is equality. Assumes nothing.
use Prim.Native.Nat.{ℕ}
use mathlib.Core.Path.{◌≡◌, refl, sym, ap, ◌∙◌}
use mathlib.Core.List.{List, [], ◌∷◌}
use mathlib.Core.Bool.{Bool, true, false, ◌&&◌, true≢false, false≢true}
use lib.Dec.{eqb}
use borrow.Author.Tests.{eqb-true, eq-eqb}
use Rattle.std.specs.Cmp.Lexicographic.{pointwise}
use Rattle.tables.proofs.Tests.{both}
use Rattle.items.specs.Items.{same}

pub same_refl : (xs : List ℕ) → same xs xs ≡ true
unfolding same
same_refl [] = refl
same_refl (x ∷ xs) = rw (eq-eqb x x refl) (same_refl xs)

pub same_eq : (xs ys : List ℕ) → same xs ys ≡ true → xs ≡ ys
unfolding same
same_eq [] [] e = refl
same_eq [] (y ∷ ys) e = absurd (false≢true e)
same_eq (x ∷ xs) [] e = absurd (false≢true e)
same_eq (x ∷ xs) (y ∷ ys) e =
    let b = both (eqb x y) (same xs ys) e in
    let p : x ≡ y = eqb-true x y b.0 in
    let q : xs ≡ ys = same_eq xs ys b.1 in
    cc

pub same_comm : (xs ys : List ℕ) → same xs ys ≡ same ys xs
same_comm xs ys = by (same xs ys) refl (same ys xs) refl
  where
    by : (a : Bool) → same xs ys ≡ a → (b : Bool) → same ys xs ≡ b → same xs ys ≡ same ys xs
    by true p true q = p ∙ sym q
    by false p false q = p ∙ sym q
    by true p false q = absurd (true≢false (sym (same_refl xs) ∙ ap (λ (l : List ℕ). same l xs) (same_eq xs ys p) ∙ q))
    by false p true q = absurd (true≢false (sym (same_refl ys) ∙ ap (λ (l : List ℕ). same l ys) (same_eq ys xs q) ∙ p))

-- what `==` tells of two slices
pub same_pointwise : (xs ys : List ℕ) → pointwise eqb xs ys ≡ same xs ys
unfolding same
same_pointwise [] [] = refl
same_pointwise [] (y ∷ ys) = refl
same_pointwise (x ∷ xs) [] = refl
same_pointwise (x ∷ xs) (y ∷ ys) = ap (λ (b : Bool). eqb x y && b) (same_pointwise xs ys)
