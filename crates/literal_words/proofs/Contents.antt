-- Numeric literals as code reads them: by the place of their point.
use mathlib.Core.Path.{◌≡◌, refl, sym, ap, ap₂, ◌∙◌}
use mathlib.Core.Bool.{Bool, true, false, cond, not, ◌&&◌, and_assoc, false≢true}
use mathlib.Core.Logic.{⊎_elim}
use mathlib.Core.List.{List, [], ◌∷◌, ◌++◌}
use Prim.Native.Nat.{ℕ, suc, ◌-◌, ◌≤◌}
use native.Mathlib.Omega.{arith}
use lib.ListN.{length, take, drop, length-take, length-drop, length-append, drop_of_length-le}
use lib.Dec.{eqb, ltb}
use borrow.Author.Tests.{eqb-true, ne_eqb, ltb-true, ltb-false}
use Rattle.content.specs.Content.{all, is_digit, is_sign, first_byte}
use Rattle.content.specs.WrongByte.{valid_content}
use Rattle.content.proofs.WrongByte.{valid_digits, valid_leading}
use Rattle.tables.proofs.Tests.{either}
use Rattle.spelling.specs.Literals.{is_point, without_point, after_point, point_place, number_of, row_of_literal, literal_digits}
use Rattle.literal_bytes.proofs.Parting.{place-within, point_out, point_after_lem}
use Rattle.literal_words.specs.Found.{row_by}

all_append : (test : ℕ → Bool) (xs ys : List ℕ) → all test (xs ++ ys) ≡ all test xs && all test ys
unfolding all
all_append test [] ys = refl
all_append test (x ∷ xs) ys = rw (all_append test xs ys) (sym (and_assoc (test x) (all test xs) (all test ys)))

-- a sign is no point
sign_no_point : (b : ℕ) → is_sign b ≡ true → is_point b ≡ false
sign_no_point b e =
    ne_eqb b 0x2e λ h. ⊎_elim (λ p. omega (arith, eqb-true b 0x2b p)) (λ p. omega (arith, eqb-true b 0x2d p)) (either (eqb b 0x2b) (eqb b 0x2d) e)

signed_split : (digits b : ℕ) (word : List ℕ) → is_sign b ≡ true
    → valid_content 5 digits (without_point (b ∷ word))
    ≡ all is_digit (take (point_place (b ∷ word) - 1) word) && all is_digit (drop (point_place (b ∷ word)) word)
unfolding without_point point_place
signed_split digits b word e =
    let z : suc (point_place word) - 1 ≡ point_place word = omega arith in
    rw (sign_no_point b e, z)
    (valid_leading digits (b ∷ without_point word) (omega arith)
    ∙ ap (λ (t : Bool). t && all is_digit (without_point word)) e
    ∙ ap (all is_digit) (point_out word)
    ∙ all_append is_digit (take (point_place word) word) (drop (suc (point_place word)) word))

-- the content of a number is digits before the point, after a sign, and digits after it
pub content_split : (digits : ℕ) (word : List ℕ) (s : Bool) → is_sign (first_byte word) ≡ s
    → valid_content (cond s 5 3) digits (without_point word)
    ≡ all is_digit (take (point_place word - cond s 1 0) (drop (cond s 1 0) word)) && all is_digit (drop (suc (point_place word)) word)
content_split digits word false e =
    let z : point_place word - 0 ≡ point_place word = omega arith in
    rw z (valid_digits digits (without_point word) ∙ ap (all is_digit) (point_out word) ∙ all_append is_digit (take (point_place word) word) (drop (suc (point_place word)) word))
content_split digits [] true e = absurd (false≢true e)
content_split digits (b ∷ word) true e = signed_split digits b word e

-- a sign stands before the point
pub start-before : (word : List ℕ) (s : Bool) → is_sign (first_byte word) ≡ s → cond s 1 0 ≤ point_place word
unfolding point_place
start-before word false e = omega arith
start-before [] true e = absurd (false≢true e)
start-before (b ∷ word) true e = rw (sign_no_point b e) (omega arith)

-- the row by the length, the place of the point and the sign
pub row_by_lem : (word : List ℕ) → row_of_literal 0 (number_of word) ≡ row_by (length word) (point_place word) (is_sign (first_byte word))
row_by_lem word =
    let p : ℕ = point_place word in
    let w = place-within word in
    let after : length (after_point word) ≡ length word - suc p = ap length (point_after_lem word) ∙ length-drop (suc p) word in
    let front = length-take p word in
    let size : length (without_point word) ≡ cond (ltb p (length word)) (length word - 1) (length word) =
    ap length (point_out word) ∙ by (ltb p (length word)) refl in
    λ i. record {
      kind = cond (is_sign (first_byte word)) 5 3;
      offset = 0;
      size = size i;
      scale = after i;
      digits = literal_digits (cond (is_sign (first_byte word)) 5 3) (size i);
    }
  where
    by : (t : Bool) → ltb (point_place word) (length word) ≡ t
        → length (take (point_place word) word ++ drop (suc (point_place word)) word) ≡ cond t (length word - 1) (length word)
    by true e =
        omega (
          arith,
          ltb-true (point_place word) (length word) e,
          length-append (take (point_place word) word) (drop (suc (point_place word)) word),
          length-take (point_place word) word,
          length-drop (suc (point_place word)) word,
        )
    by false e =
        omega (
          arith,
          ltb-false (point_place word) (length word) e,
          place-within word,
          length-append (take (point_place word) word) (drop (suc (point_place word)) word),
          length-take (point_place word) word,
          length-drop (suc (point_place word)) word,
        )

-- no bytes are all digits
pub none_all : (part : List ℕ) → length part ≡ 0 → all is_digit part ≡ true
unfolding all
none_all [] e = refl
none_all (b ∷ part) e = absurd (omega arith)

pub none_after : (word : List ℕ) (at : ℕ) → length word ≤ at → all is_digit (drop (suc at) word) ≡ true
unfolding all
none_after word at h =
    let g : length word ≤ suc at = omega arith in
    rw (drop_of_length-le word g)

-- what code knows of a number: the place of its point, whether it has a sign, and where its digits start
module _ (word : List ℕ) (p : ℕ) (signed : Bool) (from : ℕ) (place : p ≡ point_place word) (sign : signed ≡ is_sign (first_byte word)) (start : from ≡ cond signed 1 0) where
  pub start_fits : (from ≤ p) × (p ≤ length word)
  start_fits = rw (place, start) (start-before word signed (sym sign), place-within word)

  pub content_here : (digits : ℕ) → all is_digit (take (p - from) (drop from word)) && all is_digit (drop (suc p) word)
      ≡ valid_content (cond signed 5 3) digits (without_point word)
  content_here digits = rw (place, start) (sym (content_split digits word signed (sym sign)))
