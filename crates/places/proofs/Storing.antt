-- Loops that store to one place of a block after the other.
use mathlib.Core.Path.{◌≡◌, refl, sym, ap, ◌∙◌, subst}
use mathlib.Core.List.{List}
use mathlib.Core.Logic.{⊎_elim}
use Prim.Native.Nat.{ℕ, ◌+◌, ◌<◌, ◌≤◌}
use native.Mathlib.Omega.{arith}
use lib.ListN.{length, get_or, set, length-set}
use lib.Seq.{get_or-set_same, get_or-set_other}
use borrow.Author.Count.{below_more}

-- Of the first i places each holds what it is to hold; the others are as they were.
pub record Stored (P : ℕ → ℕ → Type 0) (before now : List ℕ) (i : ℕ) : Type 0 where
  pub long : length now ≡ length before
  pub done : (k : ℕ) → k < i → P k (get_or now k 0)
  pub left : (k : ℕ) → i ≤ k → get_or now k 0 ≡ get_or before k 0

module _ (P : ℕ → ℕ → Type 0) (before : List ℕ) where
  pub none_stored : Stored P before before 0
  none_stored = record { long = refl; done = λ k l. absurd (omega arith); left = λ k l. refl }

  pub stores : {now : List ℕ} {i v : ℕ} → Stored P before now i → i < length before → P i v → Stored P before (set now i v) (i + 1)
  stores {now} {i} {v} S l p =
      record {
        long = length-set now i v ∙ S.long;
        done = below_more _ i
            (λ k b. subst (P k) (sym (get_or-set_other now i k v 0 (λ e. omega arith))) (S.done k b))
            (subst (P i) (sym (get_or-set_same now i v 0 (omega (arith, S.long)))) p);
        left = λ k b. get_or-set_other now i k v 0 (λ e. omega arith) ∙ S.left k (omega arith);
      }

  pub skips : {now : List ℕ} {i : ℕ} → Stored P before now i → P i (get_or now i 0) → Stored P before now (i + 1)
  skips {now} {i} S p = record { long = S.long; done = below_more _ i S.done p; left = λ k b. S.left k (omega arith) }
