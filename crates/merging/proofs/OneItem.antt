-- One item of a merge: who changed it, and what it becomes. Assumes nothing.
use Prim.Native.Nat.{ℕ}
use mathlib.Core.Path.{◌≡◌, refl, sym, ap, ◌∙◌}
use mathlib.Core.List.{List}
use mathlib.Core.Logic.{◌⊎◌, inl, inr}
use mathlib.Core.Bool.{Bool, true, false, cond, not, ◌&&◌, and_comm, true≢false, false≢true}
use lib.ListN.{length}
use Rattle.tables.specs.declared.Verdict.{Verdict}
use Rattle.tables.specs.declared.Verdict.TheVariants.{True, False, Refused as Stopped}
use Rattle.items.specs.Items.{same}
use Rattle.item_parts.proofs.Sameness.{same_refl, same_eq, same_comm}
use Rattle.merging.specs.Merge.{decided, changed_apart, merged_item}

-- one item: who changed it, and what it becomes
module _ (verdict : Verdict) (old first second : List ℕ) where
  pub only_second : first ≡ old → merged_item verdict old first second ≡ second
  unfolding merged_item
  only_second p = rw (p, same_refl old)

  pub only_first : second ≡ old → merged_item verdict old first second ≡ first
  unfolding merged_item
  only_first p = by (same first old) refl
    where
      by : (b : Bool) → same first old ≡ b → merged_item verdict old first second ≡ first
      by true e = rw e (p ∙ sym (same_eq first old e))
      by false e = rw (e, p, same_refl old)

  pub alike : first ≡ second → merged_item verdict old first second ≡ first
  unfolding merged_item
  alike p = by (same first old) refl (same second old) refl
    where
      by : (a : Bool) → same first old ≡ a → (b : Bool) → same second old ≡ b → merged_item verdict old first second ≡ first
      by true e b f = rw e (sym p)
      by false e true f = rw (e, f)
      by false e false f = rw (e, f, p, same_refl second)

  pub apart-decided : changed_apart old first second ≡ true → merged_item verdict old first second ≡ decided verdict old first second
  unfolding merged_item changed_apart
  apart-decided e = by (same first old) refl (same second old) refl (same first second) refl e
    where
      by : (a : Bool) → same first old ≡ a → (b : Bool) → same second old ≡ b → (c : Bool) → same first second ≡ c
          → not (same first old) && not (same second old) && not (same first second) ≡ true
          → merged_item verdict old first second ≡ decided verdict old first second
      by true p b q c r h = absurd (false≢true (rw p at h))
      by false p true q c r h = absurd (false≢true (rw (p, q) at h))
      by false p false q true r h = absurd (false≢true (rw (p, q, r) at h))
      by false p false q false r h = rw (p, q, r)

-- an item that was not changed apart becomes the same, whichever copy is called the first, and whatever a run would decide
pub item_exchange : (verdict other : Verdict) (old first second : List ℕ) → changed_apart old first second ≡ false
    → merged_item verdict old first second ≡ merged_item other old second first
unfolding changed_apart
item_exchange verdict other old first second e = by (same first old) refl (same second old) refl (same first second) refl
  where
    unapart : same first old ≡ false → same second old ≡ false → same first second ≡ false → true ≡ false
    unapart p q r = rw (p, q, r) at e

    by : (a : Bool) → same first old ≡ a → (b : Bool) → same second old ≡ b → (c : Bool) → same first second ≡ c
        → merged_item verdict old first second ≡ merged_item other old second first
    by true p b q c r =
        only_second verdict old first second (same_eq first old p) ∙ sym (only_first other old second first (same_eq first old p))
    by false p true q c r =
        only_first verdict old first second (same_eq second old q) ∙ sym (only_second other old second first (same_eq second old q))
    by false p false q true r =
        let s : first ≡ second = same_eq first second r in
        alike verdict old first second s ∙ s ∙ sym (alike other old second first (sym s))
    by false p false q false r = absurd (true≢false (unapart p q r))

pub merged_length : (verdict : Verdict) (old first second : List ℕ) (n : ℕ) → length old ≡ n → length first ≡ n → length second ≡ n
    → length (merged_item verdict old first second) ≡ n
unfolding merged_item
merged_length verdict old first second n p q r = by (same first old) (same second old) (same first second) verdict
  where
    by : (a b c : Bool) (w : Verdict) → length (cond a second (cond b first (cond c first (decided w old first second)))) ≡ n
    by true b c w = r
    by false true c w = q
    by false false true w = q
    by false false false True = q
    by false false false False = r
    by false false false (Stopped x) = p

-- it is one of the three
pub one_of : (verdict : Verdict) (old first second : List ℕ)
    → (merged_item verdict old first second ≡ old) ⊎ ((merged_item verdict old first second ≡ first) ⊎ (merged_item verdict old first second ≡ second))
unfolding merged_item
one_of verdict old first second = by (same first old) (same second old) (same first second) verdict
  where
    by : (a b c : Bool) (w : Verdict)
        → (cond a second (cond b first (cond c first (decided w old first second))) ≡ old)
        ⊎ ((cond a second (cond b first (cond c first (decided w old first second))) ≡ first)
        ⊎ (cond a second (cond b first (cond c first (decided w old first second))) ≡ second))
    by true b c w = inr (inr refl)
    by false true c w = inr (inl refl)
    by false false true w = inr (inl refl)
    by false false false True = inr (inl refl)
    by false false false False = inr (inr refl)
    by false false false (Stopped x) = inl refl

pub apart_comm : (old first second : List ℕ) → changed_apart old first second ≡ changed_apart old second first
unfolding changed_apart
apart_comm old first second =
    ap (λ (b : Bool). b && not (same first second)) (and_comm (not (same first old)) (not (same second old)))
    ∙ ap (λ (b : Bool). not (same second old) && not (same first old) && not b) (same_comm first second)
