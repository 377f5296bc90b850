-- The least place, one record after the other.
use mathlib.Core.List.{List}
use Prim.Native.Nat.{ℕ, ◌+◌, ◌<◌, ◌≤◌}
use native.Mathlib.Omega.{arith}
use lib.ListN.{get_or}
use borrow.Author.Count.{below_more}
use Rattle.places.specs.Places.{Lowest}

pub none_yet : (at : List ℕ) → Lowest at 130 0
none_yet at = record { most = omega arith; under = λ k l. absurd (omega arith); attained = λ m l u. l }

pub lower : {at : List ℕ} {low i : ℕ} → Lowest at low i → get_or at i 0 < low → Lowest at (get_or at i 0) (i + 1)
lower {at} {low} {i} L l =
    record {
      most = omega (arith, L.most);
      under = below_more _ i (λ k b. omega (arith, L.under k b)) (omega arith);
      attained = λ m n u. u i (omega arith);
    }

pub no_lower : {at : List ℕ} {low i : ℕ} → Lowest at low i → low ≤ get_or at i 0 → Lowest at low (i + 1)
no_lower {at} {low} {i} L l =
    record { most = L.most; under = below_more _ i L.under l; attained = λ m n u. L.attained m n (λ k b. u k (omega arith)) }
