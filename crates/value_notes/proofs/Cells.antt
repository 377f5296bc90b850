-- Numbers set one after another.
use mathlib.Core.Path.{◌≡◌, refl, ◌∙◌}
use mathlib.Core.List.{List, [], ◌∷◌}
use Prim.Native.Nat.{ℕ, suc, ◌+◌, ◌≤◌}
use native.Mathlib.Omega.{arith}
use lib.ListN.{length, take, drop, set}
use lib.Seq.{sets, take-set-le, drop-set-lt}
use Rattle.content.specs.declared.Row as Rules
use Rattle.value_notes.specs.Taking.{note_numbers}

pub two_set : (l : List ℕ) (a x y : ℕ) → set (set l a x) (a + 1) y ≡ sets l a (x ∷ y ∷ [])
two_set l a x y = let b : a + 1 ≡ suc a = omega arith in rw b

pub seven_set : (l : List ℕ) (a o p e : ℕ) (r : Rules.Row) →
    set (set (set (set (set (set (set l a r.kind) (a + 1) o) (a + 2) r.size) (a + 3) r.scale) (a + 4) r.digits) (a + 5) p) (a + 6) e
    ≡ sets l a (note_numbers r o p e)
seven_set l a o p e r =
    let b : a + 1 ≡ suc a = omega arith in
    let c : a + 2 ≡ suc (suc a) = omega arith in
    let d : a + 3 ≡ suc (suc (suc a)) = omega arith in
    let f : a + 4 ≡ suc (suc (suc (suc a))) = omega arith in
    let g : a + 5 ≡ suc (suc (suc (suc (suc a)))) = omega arith in
    let h : a + 6 ≡ suc (suc (suc (suc (suc (suc a))))) = omega arith in
    rw (b, c, d, f, g, h)

-- Those before and after them stay.
pub sets_before : (vs l : List ℕ) (i n : ℕ) → n ≤ i → take n (sets l i vs) ≡ take n l
sets_before [] l i n h = refl
sets_before (v ∷ vs) l i n h = sets_before vs (set l i v) (suc i) n (omega arith) ∙ take-set-le n l i v h

pub sets_after : (vs l : List ℕ) (i n : ℕ) → i + length vs ≤ n → drop n (sets l i vs) ≡ drop n l
sets_after [] l i n h = refl
sets_after (v ∷ vs) l i n h = sets_after vs (set l i v) (suc i) n (omega arith) ∙ drop-set-lt n l i v (omega arith)
