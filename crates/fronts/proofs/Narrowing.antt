-- Numbers stored as bytes, one after another.
use mathlib.Core.Path.{◌≡◌, refl, ap}
use mathlib.Core.List.{List, [], ◌∷◌, ◌++◌, map}
use Prim.Native.Nat.{ℕ, zero, suc, ◌≤◌, ◌<◌}
use native.Mathlib.Omega.{arith}
use lib.ListN.{length, get_or, take, drop, set}
use lib.Seq.{take_all}
use Rattle.fronts.specs.Fronts.{low_byte, Narrows}

-- one byte more
pub narrow_more : (numbers bytes : List ℕ) (i : ℕ) → i < length numbers → i < length bytes →
    set (map low_byte (take i numbers) ++ drop i bytes) i (low_byte (get_or numbers i 0)) ≡ map low_byte (take (suc i) numbers) ++ drop (suc i) bytes
narrow_more [] bytes i l m = absurd (omega (arith, l))
narrow_more (x ∷ xs) [] i l m = absurd (omega (arith, m))
narrow_more (x ∷ xs) (b ∷ bs) zero l m = refl
narrow_more (x ∷ xs) (b ∷ bs) (suc i) l m = ap (λ (w : List ℕ). low_byte x ∷ w) (narrow_more xs bs i (omega (arith, l)) (omega (arith, m)))
