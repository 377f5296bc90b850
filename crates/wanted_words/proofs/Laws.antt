-- Laws of words over plain lists.
use mathlib.Core.Path.{◌≡◌, refl, sym, ap, ◌∙◌}
use mathlib.Core.Bool.{Bool, true, false, cond, ◌&&◌}
use mathlib.Core.List.{List, [], ◌∷◌, ◌++◌}
use Prim.Native.Nat.{ℕ, zero, suc, ◌+◌, ◌-◌, ◌≤◌, ◌<◌}
use native.Mathlib.Omega.{arith}
use native.Mathlib.Numerals.{add-one}
use borrow.Author.Tests.{eqb-true}
use lib.Dec.{eqb}
use lib.ListN.{length, get_or, take, drop, length-drop, drop_of_length-le, get_or-eq_default}
use lib.Seq.{drop-cons, take_all}
use Rattle.description.specs.Grammar.{same}
use Rattle.description.specs.Stages.{inked, common, met, literal_at}
use Rattle.description.proofs.Bytes.{eqb_no, eqb_same}
use Rattle.text_bytes.proofs.Laws.{ink_within, part_from}
use Rattle.std.specs.Prelude.{Err, Ok}

-- A word that is asked for.
pub common_more : (w bs : List ℕ) (k : ℕ) → k < length w → k < length bs → get_or bs k 0 ≡ get_or w k 0 →
    common w bs ≡ k + common (drop k w) (drop k bs) → common w bs ≡ (k + 1) + common (drop (k + 1) w) (drop (k + 1) bs)
unfolding common
common_more w bs k l m h e = e ∙ rw (drop-cons w k 0 l, drop-cons bs k 0 m, h, eqb_same (get_or w k 0), add-one) (omega arith)

pub common_other : (w bs : List ℕ) (k : ℕ) → k < length w → k < length bs → ¬ (get_or bs k 0 ≡ get_or w k 0) →
    common w bs ≡ k + common (drop k w) (drop k bs) → k ≡ common w bs
unfolding common
common_other w bs k l m h e = sym (e ∙ rw (drop-cons w k 0 l, drop-cons bs k 0 m, eqb_no (get_or bs k 0) (get_or w k 0) h) (omega arith))

pub common_short : (w bs : List ℕ) (k : ℕ) → k < length w → length bs ≤ k → common w bs ≡ k + common (drop k w) (drop k bs) → k ≡ common w bs
unfolding common
common_short w bs k l m e = sym (e ∙ rw (drop-cons w k 0 l, drop_of_length-le bs m) (omega arith))

pub common_end : (w bs : List ℕ) (k : ℕ) → length w ≤ k → common w bs ≡ k + common (drop k w) (drop k bs) → k ≡ common w bs
unfolding common
common_end w bs k l e = sym (e ∙ rw (drop_of_length-le w l) (omega arith))

pub common_le : (w bs : List ℕ) → common w bs ≤ length bs
unfolding common
common_le [] bs = omega arith
common_le (a ∷ w) [] = omega arith
common_le (a ∷ w) (b ∷ bs) = by (eqb b a) (common_le w bs)
  where
    by : (t : Bool) → common w bs ≤ length bs → cond t (suc (common w bs)) 0 ≤ suc (length bs)
    by true h = omega arith
    by false h = omega arith

pub literal_none : (w text : List ℕ) (n p : ℕ) → p ≡ inked text n → p ≡ n → Err n ≡ literal_at w text n
literal_none w text n p e h = let i : inked text n ≡ n = sym e ∙ h in rw (i, eqb_same n)

module _ (w text : List ℕ) (n p m : ℕ) (e : p ≡ inked text n) (f : m ≡ common w (take (length text - p) (drop p text))) where
  reaches : m ≡ common w (drop p text)
  reaches = f ∙ ap (common w) (part_from text p)

  pub common-within : n ≤ length text → p + m ≤ length text
  common-within h = omega (arith, reaches, ink_within text n p e h, common_le w (drop p text), length-drop p text)

  module _ (h : ¬ (p ≡ n)) where
    pub literal-word : m ≡ length w → Ok (p + m) ≡ literal_at w text n
    literal-word k = rw (← e, eqb_no p n h, ← reaches, k, eqb_same (length w))

    pub literal-fault : ¬ (m ≡ length w) → Err (p + m) ≡ literal_at w text n
    literal-fault k = rw (← e, eqb_no p n h, ← reaches, eqb_no m (length w) k)
