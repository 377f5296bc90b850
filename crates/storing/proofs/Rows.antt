-- A row copied to its place.
use mathlib.Core.Path.{◌≡◌, refl, sym, ap, ◌∙◌}
use mathlib.Core.List.{List, [], ◌∷◌}
use Prim.Native.Nat.{ℕ, ◌+◌, ◌≤◌, ◌<◌}
use native.Mathlib.Omega.{arith}
use native.Mathlib.Numerals.{add-one}
use lib.ListN.{length, get_or, take, drop, set}
use lib.Seq.{sets, sets-eq, paste, paste-zero, paste-suc, length-paste, take_all}

pub record Copied (before row : List ℕ) (at k : ℕ) (now : List ℕ) : Type 0 where
  pub is : now ≡ paste before at row k
  pub within : k ≤ 18

pub copied_none : (before row : List ℕ) (at : ℕ) → Copied before row at 0 before
copied_none before row at = record { is = paste-zero before at row; within = omega arith }

module _ {before row : List ℕ} {at : ℕ} (l : at + 17 < length before) (w : length row ≡ 18) where
  pub copied_long : {k : ℕ} {now : List ℕ} → Copied before row at k now → length now ≡ length before
  copied_long {k} c = ap length c.is ∙ length-paste before at row k (omega (arith, c.within)) (omega (arith, c.within))

  pub copied_more : {k : ℕ} {now : List ℕ} → Copied before row at k now → k < 18 → Copied before row at (k + 1) (set now (at + k) (get_or row k 0))
  copied_more {k} c h =
      record {
        is = ap (λ (z : List ℕ). set z (at + k) (get_or row k 0)) c.is ∙ paste-suc before at row k 0 (omega arith) (omega arith) ∙ rw add-one;
        within = omega arith;
      }

  pub copied_all : {k : ℕ} {now : List ℕ} → Copied before row at k now → 18 ≤ k → now ≡ sets before at row
  copied_all {k} c h =
      let z : k ≡ length row = omega (arith, c.within) in
      let t : take k row ≡ row = take_all k row (omega arith) in
      c.is ∙ rw (t, z) (sym (sets-eq row before at (omega arith)))

pub two_first : (row : List ℕ) (a b : ℕ) → length row ≡ 18 → set (set row 0 a) 1 b ≡ a ∷ b ∷ drop 2 row
two_first [] a b e = absurd (omega arith)
two_first (x ∷ []) a b e = absurd (omega arith)
two_first (x ∷ y ∷ row) a b e = refl
