-- Laws of the first wrong byte: it stands inside the field, and that there is none is a test of each part of the field.
use Prim.Native.Nat.{ℕ, zero, suc, ◌+◌, ◌-◌, ◌≤◌, ◌<◌}
use native.Mathlib.Omega.{arith}
use native.Mathlib.Numerals.{add-one}
use native.Mathlib.Nat.{zero-add}
use native.Mathlib.Decide.{ℕ_discrete, dec_lt}
use mathlib.Core.Path.{◌≡◌, refl, sym, ap, ap₂, ◌∙◌}
use mathlib.Core.List.{List, [], ◌∷◌, ◌++◌}
use mathlib.Core.Bool.{Bool, true, false, cond, not, ◌&&◌, ◌||◌, and-false, and-true, false≢true}
use lib.ListN.{length, get_or, take, drop, drop_of_length-le}
use lib.Seq.{take-suc, drop-cons, take_all}
use lib.Dec.{eqb, leb}
use borrow.Author.Tests.{ne_eqb, eq-eqb, eqb-true, lt-leb}
use Rattle.content.specs.Content.{all, is_digit, is_sign, is_signed_digit, first_byte, but_first, but_last, last_byte}
use Rattle.content.specs.Letters.{in_alphabet}
use Rattle.content.specs.Packed.{is_packed, two_digits, digit_and_sign, leads}
use Rattle.content.specs.WrongByte.{Wrong, Nowhere, At, right_byte, right_at, first_from, first_wrong, nowhere, valid_content}
use Rattle.content.proofs.Bytes.{but_last-length}

module _ (right : ℕ → ℕ → Bool) where
  -- for the loop: with byte i left it decides, or those after it do
  pub wrong_then : (bytes : List ℕ) (i : ℕ) {t : Bool} → i < length bytes → right i (get_or bytes i 0) ≡ t
      → first_from right i (drop i bytes) ≡ cond t (first_from right (i + 1) (drop (i + 1) bytes)) (At i)
  unfolding first_from
  wrong_then bytes i h e = rw (add-one, drop-cons bytes i 0, e)

  pub wrong_end : (bytes : List ℕ) (i : ℕ) → length bytes ≤ i → first_from right i (drop i bytes) ≡ Nowhere
  unfolding first_from
  wrong_end bytes i h = rw (drop_of_length-le bytes h)

  -- where one is wrong of those from i on, there is a byte i
  pub some_left : (bytes : List ℕ) (i : ℕ) → nowhere (first_from right i (drop i bytes)) ≡ false → i < length bytes
  some_left bytes i e = by (dec_lt i (length bytes))
    where
      by : Dec (i < length bytes) → i < length bytes
      by (yes l) = l
      by (no n) = absurd (false≢true (sym e ∙ ap nowhere (wrong_end bytes i (omega arith))))

  -- it stands inside
  pub wrong_inside : (at : ℕ) (bytes : List ℕ) (i : ℕ) → first_from right at bytes ≡ At i → i < at + length bytes
  unfolding first_from
  wrong_inside at [] i e = absurd (let z : ◌≡◌ {A = ℕ} 0 1 = cc in omega arith)
  wrong_inside at (b ∷ bytes) i e = by (right at b) e (wrong_inside (suc at) bytes i)
    where
      by : (t : Bool) → cond t (first_from right (suc at) bytes) (At at) ≡ At i → (first_from right (suc at) bytes ≡ At i → i < suc at + length bytes)
          → i < at + length (b ∷ bytes)
      by true f rest = omega (arith, rest f)
      by false f rest = let z : at ≡ i = cc in omega arith

  -- a part whose bytes all have one test
  clean_all : (test : ℕ → Bool) (at : ℕ) (bytes : List ℕ) → ((i : ℕ) → at ≤ i → i < at + length bytes → (b : ℕ) → right i b ≡ test b)
      → nowhere (first_from right at bytes) ≡ all test bytes
  unfolding first_from all
  clean_all test at [] h = refl
  clean_all test at (b ∷ bytes) h =
      rw (h at (omega arith) (omega arith) b) (by (test b) (clean_all test (suc at) bytes (λ i l m. h i (omega arith) (omega arith))))
    where
      by : (t : Bool) → nowhere (first_from right (suc at) bytes) ≡ all test bytes
          → nowhere (cond t (first_from right (suc at) bytes) (At at)) ≡ t && all test bytes
      by true e = e
      by false e = refl

  -- two parts
  clean_append : (at : ℕ) (xs ys : List ℕ)
      → nowhere (first_from right at (xs ++ ys)) ≡ nowhere (first_from right at xs) && nowhere (first_from right (at + length xs) ys)
  unfolding first_from
  clean_append at [] ys = let e : at + length {A = ℕ} [] ≡ at = omega arith in rw e
  clean_append at (x ∷ xs) ys =
      let e : at + length (x ∷ xs) ≡ suc at + length xs = omega arith in
      rw e (by (right at x) (clean_append (suc at) xs ys))
    where
      by : (t : Bool)
          → nowhere (first_from right (suc at) (xs ++ ys)) ≡ nowhere (first_from right (suc at) xs) && nowhere (first_from right (suc at + length xs) ys)
          → nowhere (cond t (first_from right (suc at) (xs ++ ys)) (At at))
          ≡ nowhere (cond t (first_from right (suc at) xs) (At at)) && nowhere (first_from right (suc at + length xs) ys)
      by true h = h
      by false h = refl

  -- one byte
  clean_one : (at b : ℕ) → nowhere (first_from right at (b ∷ [])) ≡ right at b
  unfolding first_from
  clean_one at b = by (right at b)
    where
      by : (t : Bool) → nowhere (cond t (first_from right (suc at) []) (At at)) ≡ t
      by true = refl
      by false = refl

split_last : (bytes : List ℕ) → 1 ≤ length bytes → bytes ≡ but_last bytes ++ last_byte bytes ∷ []
split_last bytes h =
    let e : suc (length bytes - 1) ≡ length bytes = omega arith in
    sym (take_all (length bytes) bytes (omega arith)) ∙ ap (λ n. take n bytes) (sym e) ∙ take-suc bytes (length bytes - 1) 0 (omega arith)

-- all bytes by one test but the last, which has a test of its own
clean_last : (right : ℕ → ℕ → Bool) (other test : ℕ → Bool) (bytes : List ℕ) → 1 ≤ length bytes
    → ((i : ℕ) → i < length bytes - 1 → (b : ℕ) → right i b ≡ other b) → ((b : ℕ) → right (length bytes - 1) b ≡ test b)
    → nowhere (first_from right 0 bytes) ≡ all other (but_last bytes) && test (last_byte bytes)
clean_last right other test bytes h each last =
    ap (λ w. nowhere (first_from right 0 w)) (split_last bytes h)
    ∙ clean_append right 0 (but_last bytes) (last_byte bytes ∷ [])
    ∙ ap₂ ◌&&◌
    (clean_all right other 0 (but_last bytes) (λ i l m. each i (omega (arith, but_last-length bytes))))
    (clean_one right (0 + length (but_last bytes)) (last_byte bytes)
    ∙ (let e : 0 + length (but_last bytes) ≡ length bytes - 1 = omega (arith, but_last-length bytes) in rw e (last (last_byte bytes))))

clean_first : (right : ℕ → ℕ → Bool) (test : ℕ → Bool) (bytes : List ℕ) → 1 ≤ length bytes
    → ((b : ℕ) → right 0 b ≡ test b) → ((i : ℕ) → 1 ≤ i → (b : ℕ) → right i b ≡ is_digit b)
    → nowhere (first_from right 0 bytes) ≡ test (get_or bytes 0 0) && all is_digit (but_first bytes)
clean_first right test [] h first each = absurd (omega arith)
clean_first right test (b ∷ bytes) h first each =
    clean_append right 0 (b ∷ []) bytes
    ∙ ap₂ ◌&&◌ (clean_one right 0 b ∙ first b) (clean_all right is_digit 1 bytes (λ i l m. each i l))

outside : (k : ℕ) → ¬ (k ≡ 3) → ¬ (k ≡ 4) → ¬ (k ≡ 5) → ¬ (k ≡ 6) → leb 3 k && leb k 6 ≡ false
outside k p q r s = by (dec_lt k 3)
  where
    by : Dec (k < 3) → leb 3 k && leb k 6 ≡ false
    by (yes l) = rw (lt-leb 3 k l)
    by (no l) = rw (lt-leb k 6 (omega arith)) (and-false (leb 3 k))

any : (bytes : List ℕ) → all (λ _. true) bytes ≡ true
unfolding all
any [] = refl
any (b ∷ bytes) = any bytes

-- valid content by the parts of a field, as the code tests it
pub valid_digits : (digits : ℕ) (bytes : List ℕ) → valid_content 3 digits bytes ≡ all is_digit bytes
unfolding valid_content
valid_digits digits bytes = clean_all (right_at 3 digits (length bytes)) is_digit 0 bytes (λ i l m b. refl)

pub valid_signed : (digits : ℕ) (bytes : List ℕ) → 1 ≤ length bytes → valid_content 4 digits bytes ≡ all is_digit (but_last bytes) && is_signed_digit (last_byte bytes)
unfolding valid_content
valid_signed digits bytes h =
    clean_last (right_at 4 digits (length bytes)) is_digit is_signed_digit bytes h
    (λ i l b. rw (ne_eqb (i + 1) (length bytes) (omega arith)))
    (λ b. rw (eq-eqb (length bytes - 1 + 1) (length bytes) (omega arith)))

pub valid_leading : (digits : ℕ) (bytes : List ℕ) → 1 ≤ length bytes → valid_content 5 digits bytes ≡ is_sign (first_byte bytes) && all is_digit (but_first bytes)
unfolding valid_content
valid_leading digits bytes h = clean_first (right_at 5 digits (length bytes)) is_sign bytes h (λ b. refl) (λ i l b. rw (ne_eqb i 0 (omega arith)))

pub valid_trailing : (digits : ℕ) (bytes : List ℕ) → 1 ≤ length bytes → valid_content 6 digits bytes ≡ all is_digit (but_last bytes) && is_sign (last_byte bytes)
unfolding valid_content
valid_trailing digits bytes h =
    clean_last (right_at 6 digits (length bytes)) is_digit is_sign bytes h
    (λ i l b. rw (ne_eqb (i + 1) (length bytes) (omega arith)))
    (λ b. rw (eq-eqb (length bytes - 1 + 1) (length bytes) (omega arith)))

pub valid_letters : (digits : ℕ) (bytes : List ℕ) → valid_content 1 digits bytes ≡ all (in_alphabet 11) bytes
unfolding valid_content
valid_letters digits bytes = clean_all (right_at 1 digits (length bytes)) (in_alphabet 11) 0 bytes (λ i l m b. refl)

pub valid_other : (kind digits : ℕ) (bytes : List ℕ) → ¬ (kind ≡ 3) → ¬ (kind ≡ 4) → ¬ (kind ≡ 5) → ¬ (kind ≡ 6) → ¬ (kind ≡ 1)
    → is_packed kind ≡ false → valid_content kind digits bytes ≡ true
unfolding valid_content
valid_other kind digits bytes p q r s t u =
    clean_all (right_at kind digits (length bytes)) (λ _. true) 0 bytes
    (λ i l m b. rw (ne_eqb kind 1 t, ne_eqb kind 4 q, ne_eqb kind 5 r, ne_eqb kind 6 s, outside kind p q r s, u))
    ∙ any bytes

-- a packed field: its pairs of digits, its last byte, and the half that leads
clean_both : (p q : ℕ → ℕ → Bool) (at : ℕ) (bytes : List ℕ)
    → nowhere (first_from (λ i b. p i b && q i b) at bytes) ≡ nowhere (first_from p at bytes) && nowhere (first_from q at bytes)
unfolding first_from
clean_both p q at [] = refl
clean_both p q at (b ∷ bytes) = by (p at b) (q at b) (clean_both p q (suc at) bytes)
  where
    by : (s t : Bool)
        → nowhere (first_from (λ i b. p i b && q i b) (suc at) bytes) ≡ nowhere (first_from p (suc at) bytes) && nowhere (first_from q (suc at) bytes)
        → nowhere (cond (s && t) (first_from (λ i b. p i b && q i b) (suc at) bytes) (At at))
        ≡ nowhere (cond s (first_from p (suc at) bytes) (At at)) && nowhere (cond t (first_from q (suc at) bytes) (At at))
    by true true e = e
    by true false e = sym (and-false (nowhere (first_from p (suc at) bytes)))
    by false t e = refl

clean_lead : (test : ℕ → Bool) (bytes : List ℕ) → 1 ≤ length bytes
    → nowhere (first_from (λ i b. not (eqb i 0) || test b) 0 bytes) ≡ test (first_byte bytes)
clean_lead test [] h = absurd (omega arith)
clean_lead test (b ∷ bytes) h =
    clean_append (λ i c. not (eqb i 0) || test c) 0 (b ∷ []) bytes
    ∙ ap₂ ◌&&◌ (clean_one (λ i c. not (eqb i 0) || test c) 0 b)
    (clean_all (λ i c. not (eqb i 0) || test c) (λ _. true) 1 bytes (λ i l m c. rw (ne_eqb i 0 (omega arith))) ∙ any bytes)
    ∙ and-true (test b)

module _ (kind digits : ℕ) (bytes : List ℕ) (h : 1 ≤ length bytes) where
  packed-parts : nowhere (first_from (λ i b. (not (eqb (i + 1) (length bytes)) || digit_and_sign kind b) && (eqb (i + 1) (length bytes) || two_digits b) && (not (eqb i 0) || leads digits b)) 0 bytes)
      ≡ all two_digits (but_last bytes) && digit_and_sign kind (last_byte bytes) && leads digits (first_byte bytes)
  packed-parts =
      clean_both (λ i b. (not (eqb (i + 1) (length bytes)) || digit_and_sign kind b) && (eqb (i + 1) (length bytes) || two_digits b)) (λ i b. not (eqb i 0) || leads digits b) 0 bytes
      ∙ ap₂ ◌&&◌
      (clean_last (λ i b. (not (eqb (i + 1) (length bytes)) || digit_and_sign kind b) && (eqb (i + 1) (length bytes) || two_digits b)) two_digits (digit_and_sign kind) bytes h
      (λ i l b. rw (ne_eqb (i + 1) (length bytes) (omega arith)))
      (λ b. rw (eq-eqb (length bytes - 1 + 1) (length bytes) (omega arith)) (and-true (digit_and_sign kind b))))
      (clean_lead (leads digits) bytes h)

pub valid_packed : (kind digits : ℕ) (bytes : List ℕ) → 1 ≤ length bytes → is_packed kind ≡ true
    → valid_content kind digits bytes ≡ all two_digits (but_last bytes) && digit_and_sign kind (last_byte bytes) && leads digits (first_byte bytes)
unfolding valid_content
valid_packed kind digits bytes h e = by (ℕ_discrete kind 8)
  where
    by : Dec (kind ≡ 8) → nowhere (first_wrong kind digits bytes) ≡ all two_digits (but_last bytes) && digit_and_sign kind (last_byte bytes) && leads digits (first_byte bytes)
    by (yes p) = rw p (packed-parts 8 digits bytes h)
    by (no n) = rw (eqb-true kind 9 (rw (ne_eqb kind 8 n) at e)) (packed-parts 9 digits bytes h)

-- content that is not valid has a first wrong byte, which stands inside the field
pub some_wrong : (kind digits : ℕ) (bytes : List ℕ) → valid_content kind digits bytes ≡ false → nowhere (first_wrong kind digits bytes) ≡ false
unfolding valid_content
some_wrong kind digits bytes e = e

pub wrong_within : (kind digits : ℕ) (bytes : List ℕ) {i : ℕ} → first_wrong kind digits bytes ≡ At i → i < length bytes
wrong_within kind digits bytes {i} e = omega (arith, wrong_inside (right_at kind digits (length bytes)) 0 bytes i e)

-- What "first wrong byte" says: byte i breaks its rule and none before it does; or no byte does.
module _ (right : ℕ → ℕ → Bool) (bytes : List ℕ) where
  passed : (k : ℕ) → k ≤ length bytes → ((j : ℕ) → j < k → right j (get_or bytes j 0) ≡ true) → first_from right 0 bytes ≡ first_from right k (drop k bytes)
  passed zero l h = refl
  passed (suc k) l h =
      passed k (omega arith) (λ j m. h j (omega arith)) ∙ rw add-one at (wrong_then right bytes k (omega arith) (h k (omega arith)))

  pub first_is : (i : ℕ) → i < length bytes → ((j : ℕ) → j < i → right j (get_or bytes j 0) ≡ true) → right i (get_or bytes i 0) ≡ false
      → first_from right 0 bytes ≡ At i
  first_is i l h e = passed i (omega arith) h ∙ wrong_then right bytes i l e

  pub none_is : ((j : ℕ) → j < length bytes → right j (get_or bytes j 0) ≡ true) → first_from right 0 bytes ≡ Nowhere
  none_is h = passed (length bytes) (omega arith) h ∙ wrong_end right bytes (length bytes) (omega arith)
