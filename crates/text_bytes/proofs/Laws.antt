-- Laws of blanks and places over plain lists.
use mathlib.Core.Path.{◌≡◌, refl, sym, ◌∙◌}
use mathlib.Core.Bool.{Bool, true, false, cond}
use mathlib.Core.List.{List, [], ◌∷◌}
use Prim.Native.Nat.{ℕ, suc, ◌+◌, ◌-◌, ◌≤◌, ◌<◌, max}
use native.Mathlib.Omega.{arith}
use native.Mathlib.Numerals.{add-one}
use borrow.Author.Tests.{leb-true, leb-false}
use lib.Dec.{leb}
use lib.ListN.{length, get_or, take, drop, length-drop, drop_of_length-le, get_or-eq_default}
use lib.Seq.{drop-cons, take_all}
use Rattle.description.specs.Grammar.{is_blank}
use Rattle.description.specs.Stages.{blanks, inked}

-- Blanks.
pub blank_more : (text : List ℕ) (n k : ℕ) → k < length text → is_blank (get_or text k 0) ≡ true → inked text n ≡ inked text k → inked text n ≡ inked text (k + 1)
unfolding blanks
blank_more text n k l h e = e ∙ rw (drop-cons text k 0 l, h, add-one) (omega arith)

pub blank_stop : (text : List ℕ) (n k : ℕ) → k < length text → is_blank (get_or text k 0) ≡ false → inked text n ≡ inked text k → k ≡ inked text n
unfolding blanks
blank_stop text n k l h e = sym (e ∙ rw (drop-cons text k 0 l, h) (omega arith))

pub blank_end : (text : List ℕ) (n k : ℕ) {m : ℕ} → n ≤ k → (n ≤ length text → k ≤ length text) → length text ≤ k → inked text n ≡ inked text k → m ≡ max n (length text) → m ≡ inked text n
unfolding blanks
blank_end text n k {m} h f l e q = by (leb n (length text)) refl
  where
    by : (t : Bool) → leb n (length text) ≡ t → m ≡ inked text n
    by true g = let i : k ≤ length text = f (leb-true n (length text) g) in sym (e ∙ rw (drop_of_length-le text l) (omega arith))
    by false g = let i : length text ≤ n = omega (arith, leb-false n (length text) g) in rw (drop_of_length-le text i) (omega arith)

blanks_le : (bs : List ℕ) → blanks bs ≤ length bs
unfolding blanks
blanks_le [] = omega arith
blanks_le (b ∷ bs) = by (is_blank b) (blanks_le bs)
  where
    by : (t : Bool) → blanks bs ≤ length bs → cond t (suc (blanks bs)) 0 ≤ suc (length bs)
    by true h = omega arith
    by false h = omega arith

pub inked_le : (text : List ℕ) (n : ℕ) → n ≤ length text → inked text n ≤ length text
inked_le text n h = omega (arith, blanks_le (drop n text), length-drop n text)

pub ink_within : (text : List ℕ) (n p : ℕ) → p ≡ inked text n → n ≤ length text → p ≤ length text
ink_within text n p e h = omega (arith, inked_le text n h)

-- the part from p on
pub part_from : (text : List ℕ) (p : ℕ) → take (length text - p) (drop p text) ≡ drop p text
part_from text p = take_all (length text - p) (drop p text) (omega (arith, length-drop p text))

-- Past the end.
pub no_byte : (text : List ℕ) (k : ℕ) → length text ≤ k → 0 ≡ get_or text k 0
no_byte text k l = sym (get_or-eq_default text 0 l)
