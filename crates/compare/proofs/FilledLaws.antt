-- Laws of a side filled on the right with spaces: what stands at a place, and how it parts.
use mathlib.Core.Path.{◌≡◌, refl, sym, ap, ◌∙◌}
use mathlib.Core.List.{List, [], ◌∷◌, ◌++◌}
use Prim.Native.Nat.{ℕ, zero, suc, ◌+◌, ◌-◌, ◌≤◌, ◌<◌}
use native.Mathlib.Omega.{arith}
use native.Mathlib.Numerals.{add-one}
use lib.ListN.{length, get_or, take, drop, replicate, take-append-drop, drop_of_length-le, length-append, length-replicate, get_or-replicate}
use lib.Seq.{take-append-le, drop-cons}
use Rattle.compare.specs.Compared.{filled}

-- what stands at i: the list's own, or a space
fill_at : (xs : List ℕ) (k i : ℕ) → i < length xs + k → get_or (xs ++ replicate k 0x20) i 0 ≡ get_or xs i 0x20
fill_at [] k i h = get_or-replicate k i 0x20 0 (omega arith)
fill_at (x ∷ xs) k zero h = refl
fill_at (x ∷ xs) k (suc i) h = fill_at xs k i (omega arith)

length-filled : (n : ℕ) (xs : List ℕ) → length xs ≤ n → length (filled n xs) ≡ n
length-filled n xs h = simp (length-append, length-replicate) (omega arith)

pub drop-filled : (n : ℕ) (xs : List ℕ) (i : ℕ) → length xs ≤ n → i < n → drop i (filled n xs) ≡ get_or xs i 0x20 ∷ drop (i + 1) (filled n xs)
drop-filled n xs i p h =
    rw add-one
    (drop-cons (filled n xs) i 0 (omega (arith, length-filled n xs p))
    ∙ ap (λ (x : ℕ). x ∷ drop (suc i) (filled n xs)) (fill_at xs (n - length xs) i (omega arith)))

pub drop_past : (n : ℕ) (xs : List ℕ) (i : ℕ) → length xs ≤ n → n ≤ i → drop i (filled n xs) ≡ []
drop_past n xs i p h = drop_of_length-le (filled n xs) {i = i} (omega (arith, length-filled n xs p))

pub filled-parts : (n : ℕ) (xs : List ℕ) (i : ℕ) → i ≤ length xs → filled n xs ≡ take i xs ++ drop i (filled n xs)
filled-parts n xs i h =
    sym (take-append-drop i (filled n xs)) ∙ ap (λ (p : List ℕ). p ++ drop i (filled n xs)) (take-append-le i xs _ h)
