-- Theorems about mending one item, and about the list of changes. Assumes nothing.
use Prim.Native.Nat.{ℕ, zero, suc, ◌+◌, ◌-◌, ◌/◌, ◌%◌, ◌≤◌, ◌<◌}
use native.Mathlib.Omega.{arith}
use native.Mathlib.Numerals.{add-one}
use native.Mathlib.Decide.{ℕ_discrete}
use mathlib.Core.Path.{◌≡◌, refl, sym, ap, ◌∙◌}
use mathlib.Core.List.{List, [], ◌∷◌, ◌++◌, append_assoc}
use mathlib.Core.Logic.{◌⊎◌, inl, inr, ⊎_elim}
use mathlib.Core.Bool.{Bool, true, false, cond, ◌&&◌, ◌||◌, true≢false, false≢true}
use lib.ListN.{length, get_or, take, drop, set, length-append, length-drop}
use lib.Seq.{length-take-le, take-suc, take_all, take_at, set_at}
use lib.Dec.{eqb, leb}
use borrow.Author.Tests.{eqb-true, eqb-false, eq-eqb, ne_eqb, leb-true}
use Rattle.content.specs.Content.{all, is_digit, is_sign, is_signed_digit, first_byte, last_byte, but_first, but_last, digit_bytes}
use Rattle.content.specs.Letters.{is_space}
use Rattle.content.specs.WrongByte.{valid_content}
use Rattle.content.proofs.WrongByte.{valid_digits, valid_signed, valid_leading, valid_trailing}
use Rattle.content.proofs.Bytes.{but_last-length}
use Rattle.tables.proofs.Tests.{both, either}
use Rattle.mending.specs.Mend.{filled, leading, sign_of, attempt, mended_item}
use Rattle.content.specs.Kinds.{is_zoned}

-- bytes that are no space
digit_ink : (b : ℕ) → is_digit b ≡ true → is_space b ≡ false
digit_ink b e = let f = both (leb 0x30 b) (leb b 0x39) e in ne_eqb b 0x20 (λ p. omega (arith, leb-true))

sign_ink : (b : ℕ) → is_sign b ≡ true → is_space b ≡ false
sign_ink b e =
    ⊎_elim (λ f. ne_eqb b 0x20 (λ p. omega (arith, eqb-true))) (λ f. ne_eqb b 0x20 (λ p. omega (arith, eqb-true))) (either (eqb b 0x2b) (eqb b 0x2d) e)

signed_ink : (b : ℕ) → is_signed_digit b ≡ true → is_space b ≡ false
signed_ink b e =
    ⊎_elim (λ f. ne_eqb b 0x20 (λ p. omega (arith, eqb-true))) (λ f. ne_eqb b 0x20 (λ p. omega (arith, eqb-true)))
    (either (eqb (b / 16) 3) (eqb (b / 16) 4) (both (eqb (b / 16) 3 || eqb (b / 16) 4) (leb (b % 16) 9) e).0)

-- leading spaces filled: none, where a space does not lead
filled-length : (bytes : List ℕ) → length (filled bytes) ≡ length bytes
unfolding filled
filled-length [] = refl
filled-length (b ∷ bytes) = by (is_space b) (filled-length bytes)
  where
    by : (t : Bool) → length (filled bytes) ≡ length bytes → length (cond t (0x30 ∷ filled bytes) (b ∷ bytes)) ≡ suc (length bytes)
    by true h = ap suc h
    by false h = refl

pub leading_length : (bytes : List ℕ) → length (leading bytes) ≡ length bytes
unfolding leading
leading_length bytes = by (all is_space bytes)
  where
    by : (t : Bool) → length (cond t bytes (filled bytes)) ≡ length bytes
    by true = refl
    by false = filled-length bytes

leading_still : (b : ℕ) (bytes : List ℕ) → is_space b ≡ false → leading (b ∷ bytes) ≡ b ∷ bytes
unfolding leading filled all
leading_still b bytes e = rw e

leading-digits : (bytes : List ℕ) → all is_digit bytes ≡ true → leading bytes ≡ bytes
unfolding leading all
leading-digits [] e = refl
leading-digits (b ∷ bytes) e = leading_still b bytes (digit_ink b (both (is_digit b) (all is_digit bytes) e).0)

leading_blank : (bytes : List ℕ) → all is_space bytes ≡ true → leading bytes ≡ bytes
unfolding leading
leading_blank bytes e = rw e

signed_still : (b : ℕ) → is_space b ≡ false → sign_of b ≡ b
signed_still b e = rw e

-- a kind from 3 to 6
pub zoned : (P : ℕ → Type 0) → P 3 → P 4 → P 5 → P 6 → (kind : ℕ) → is_zoned kind ≡ true → P kind
zoned P a b c d kind e = by (ℕ_discrete kind 3) (ℕ_discrete kind 4) (ℕ_discrete kind 5)
  where
    low : 3 ≤ kind
    low = leb-true _ _ (both (leb 3 kind) (leb kind 6) e).0

    high : kind ≤ 6
    high = leb-true _ _ (both (leb 3 kind) (leb kind 6) e).1

    by : Dec (kind ≡ 3) → Dec (kind ≡ 4) → Dec (kind ≡ 5) → P kind
    by (yes p) q r = rw p a
    by (no p) (yes q) r = rw q b
    by (no p) (no q) (yes r) = rw r c
    by (no p) (no q) (no r) = let s : kind ≡ 6 = omega (arith, low, high) in rw s d

-- all but the last, and the last
front_last : (bytes : List ℕ) → 1 ≤ length bytes → but_last bytes ++ last_byte bytes ∷ [] ≡ bytes
front_last bytes h =
    let n : ℕ = length bytes - 1 in
    sym (take-suc bytes n 0 (omega arith)) ∙ take_all (suc n) bytes (omega arith)

-- a valid item is as it would be attempted
still_3 : (digits : ℕ) (bytes : List ℕ) → valid_content 3 digits bytes ≡ true → 1 ≤ length bytes → attempt 3 bytes ≡ bytes
unfolding attempt
still_3 digits bytes e h = leading-digits bytes (sym (valid_digits digits bytes) ∙ e)

front_first : (b c : ℕ) (bytes : List ℕ) → but_last (b ∷ c ∷ bytes) ≡ b ∷ but_last (c ∷ bytes)
front_first b c bytes =
    let e : suc (suc (length bytes)) - 1 ≡ suc (length bytes) = omega arith in
    let f : suc (length bytes) - 1 ≡ length bytes = omega arith in
    rw (e, f)

still_4 : (digits : ℕ) (bytes : List ℕ) → valid_content 4 digits bytes ≡ true → 1 ≤ length bytes → attempt 4 bytes ≡ bytes
unfolding attempt all
still_4 digits [] e h = absurd (omega arith)
still_4 digits (b ∷ []) e h = leading_still b [] (signed_ink b (sym (valid_signed digits (b ∷ []) h) ∙ e))
still_4 digits (b ∷ c ∷ bytes) e h =
    let f = both (all is_digit (but_last (b ∷ c ∷ bytes))) (is_signed_digit (last_byte (b ∷ c ∷ bytes))) (sym (valid_signed digits (b ∷ c ∷ bytes) h) ∙ e) in
    leading_still b (c ∷ bytes) (digit_ink b (both (is_digit b) (all is_digit (but_last (c ∷ bytes))) (ap (all is_digit) (sym (front_first b c bytes)) ∙ f.0)).0)

still_5 : (digits : ℕ) (bytes : List ℕ) → valid_content 5 digits bytes ≡ true → 1 ≤ length bytes → attempt 5 bytes ≡ bytes
unfolding attempt
still_5 digits [] e h = absurd (omega arith)
still_5 digits (b ∷ bytes) e h =
    let f = both (is_sign b) (all is_digit bytes) (sym (valid_leading digits (b ∷ bytes) h) ∙ e) in
    rw (signed_still b (sign_ink b f.0), leading-digits bytes f.1)

still_6 : (digits : ℕ) (bytes : List ℕ) → valid_content 6 digits bytes ≡ true → 1 ≤ length bytes → attempt 6 bytes ≡ bytes
unfolding attempt
still_6 digits bytes e h =
    let f = both (all is_digit (but_last bytes)) (is_sign (last_byte bytes)) (sym (valid_trailing digits bytes h) ∙ e) in
    rw (signed_still (last_byte bytes) (sign_ink (last_byte bytes) f.1), leading-digits (but_last bytes) f.0) (front_last bytes h)

pub still : (kind digits : ℕ) → is_zoned kind ≡ true → (bytes : List ℕ) → valid_content kind digits bytes ≡ true → 1 ≤ length bytes → attempt kind bytes ≡ bytes
still kind digits z =
    zoned (λ k. (bytes : List ℕ) → valid_content k digits bytes ≡ true → 1 ≤ length bytes → attempt k bytes ≡ bytes)
    (still_3 digits) (still_4 digits) (still_5 digits) (still_6 digits) kind z

-- what an item becomes: its attempt where that is valid, else itself
pub mended_either : (kind digits : ℕ) (bytes : List ℕ)
    → ((is_zoned kind ≡ true) × (valid_content kind digits (attempt kind bytes) ≡ true) × (mended_item kind digits bytes ≡ attempt kind bytes)) ⊎ (mended_item kind digits bytes ≡ bytes)
unfolding mended_item
mended_either kind digits bytes = by (is_zoned kind) refl (valid_content kind digits (attempt kind bytes)) refl
  where
    by : (z : Bool) → is_zoned kind ≡ z → (t : Bool) → valid_content kind digits (attempt kind bytes) ≡ t
        → ((is_zoned kind ≡ true) × (valid_content kind digits (attempt kind bytes) ≡ true) × (mended_item kind digits bytes ≡ attempt kind bytes)) ⊎ (mended_item kind digits bytes ≡ bytes)
    by true z true t = inl (z, t, rw (z, t))
    by true z false t = inr (rw (z, t))
    by false z t u = inr (rw z)

-- "a mended item is valid": an item is valid afterwards, or untouched
pub mended_valid : (kind digits : ℕ) (bytes : List ℕ) → (valid_content kind digits (mended_item kind digits bytes) ≡ true) ⊎ (mended_item kind digits bytes ≡ bytes)
mended_valid kind digits bytes = ⊎_elim (λ t. inl (ap (valid_content kind digits) t.2 ∙ t.1)) (λ e. inr e) (mended_either kind digits bytes)

-- a valid item is untouched
pub valid_untouched : (kind digits : ℕ) (bytes : List ℕ) → 1 ≤ length bytes → valid_content kind digits bytes ≡ true → mended_item kind digits bytes ≡ bytes
valid_untouched kind digits bytes h e = ⊎_elim (λ t. t.2 ∙ still kind digits t.0 bytes e h) (λ p. p) (mended_either kind digits bytes)

-- an item once mended is mended for good
pub mended_twice : (kind digits : ℕ) (bytes : List ℕ) → 1 ≤ length bytes → length (mended_item kind digits bytes) ≡ length bytes
    → mended_item kind digits (mended_item kind digits bytes) ≡ mended_item kind digits bytes
mended_twice kind digits bytes h l =
    ⊎_elim (λ t. valid_untouched kind digits (mended_item kind digits bytes) (omega arith) t) (λ p. ap (mended_item kind digits) p) (mended_valid kind digits bytes)

-- mending changes no length
attempt_3 : (bytes : List ℕ) → 1 ≤ length bytes → length (attempt 3 bytes) ≡ length bytes
unfolding attempt
attempt_3 bytes h = leading_length bytes

attempt_4 : (bytes : List ℕ) → 1 ≤ length bytes → length (attempt 4 bytes) ≡ length bytes
unfolding attempt
attempt_4 bytes h = leading_length bytes

pub attempt_5 : (bytes : List ℕ) → 1 ≤ length bytes → length (attempt 5 bytes) ≡ length bytes
unfolding attempt
attempt_5 bytes h = omega (arith, leading_length (but_first bytes), length-drop 1 bytes)

pub attempt_6 : (bytes : List ℕ) → 1 ≤ length bytes → length (attempt 6 bytes) ≡ length bytes
unfolding attempt
attempt_6 bytes h =
    omega (arith, length-append (leading (but_last bytes)) (sign_of (last_byte bytes) ∷ []), leading_length (but_last bytes), but_last-length bytes)

pub mended_length : (kind digits : ℕ) (bytes : List ℕ) → 1 ≤ length bytes → length (mended_item kind digits bytes) ≡ length bytes
mended_length kind digits bytes h =
    ⊎_elim
    (λ t.
    ap length t.2
    ∙ zoned (λ k. (xs : List ℕ) → 1 ≤ length xs → length (attempt k xs) ≡ length xs) attempt_3 attempt_4 attempt_5 attempt_6 kind t.0 bytes h)
    (λ p. ap length p)
    (mended_either kind digits bytes)

-- digits that are spaces only: the item is untouched, so blank is never zero
blank_first : (bytes : List ℕ) → 1 ≤ length bytes → all is_space bytes ≡ true → all is_digit bytes ≡ false
unfolding all
blank_first [] h e = absurd (omega arith)
blank_first (b ∷ bytes) h e =
    let p : b ≡ 0x20 = eqb-true b 0x20 (both (is_space b) (all is_space bytes) e).0 in
    rw p

blank_3 : (digits : ℕ) (bytes : List ℕ) → 1 ≤ length (digit_bytes 3 bytes) → all is_space (digit_bytes 3 bytes) ≡ true → valid_content 3 digits (attempt 3 bytes) ≡ true → attempt 3 bytes ≡ bytes
unfolding attempt
blank_3 digits bytes h e v = leading_blank bytes e

blank_4 : (digits : ℕ) (bytes : List ℕ) → 1 ≤ length (digit_bytes 4 bytes) → all is_space (digit_bytes 4 bytes) ≡ true → valid_content 4 digits (attempt 4 bytes) ≡ true → attempt 4 bytes ≡ bytes
unfolding attempt
blank_4 digits bytes h e v = leading_blank bytes e

blank_5 : (digits : ℕ) (bytes : List ℕ) → 1 ≤ length (digit_bytes 5 bytes) → all is_space (digit_bytes 5 bytes) ≡ true → valid_content 5 digits (attempt 5 bytes) ≡ true → attempt 5 bytes ≡ bytes
unfolding attempt
blank_5 digits bytes h e v =
    let d : all is_digit (leading (but_first bytes)) ≡ true = (both (is_sign (sign_of (first_byte bytes))) (all is_digit (leading (but_first bytes)))
    (sym (valid_leading digits (sign_of (first_byte bytes) ∷ leading (but_first bytes)) (omega arith)) ∙ v)).1 in
    absurd (true≢false (sym d ∙ ap (all is_digit) (leading_blank (but_first bytes) e) ∙ blank_first (but_first bytes) h e))

blank_6 : (digits : ℕ) (bytes : List ℕ) → 1 ≤ length (digit_bytes 6 bytes) → all is_space (digit_bytes 6 bytes) ≡ true → valid_content 6 digits (attempt 6 bytes) ≡ true → attempt 6 bytes ≡ bytes
unfolding attempt
blank_6 digits bytes h e v =
    let ds : List ℕ = leading (but_last bytes) in
    let tail : List ℕ = sign_of (last_byte bytes) ∷ [] in
    let d : all is_digit (but_last (ds ++ tail)) ≡ true = (both (all is_digit (but_last (ds ++ tail))) (is_sign (last_byte (ds ++ tail)))
    (sym (valid_trailing digits (ds ++ tail) (omega (arith, length-append ds tail))) ∙ v)).0 in
    let q : but_last (ds ++ tail) ≡ ds = take_at ds tail (length (ds ++ tail) - 1) (omega (arith, length-append ds tail)) in
    absurd (true≢false (sym d ∙ ap (all is_digit) (q ∙ leading_blank (but_last bytes) e) ∙ blank_first (but_last bytes) h e))

pub blank_untouched : (kind digits : ℕ) (bytes : List ℕ) → 1 ≤ length (digit_bytes kind bytes) → all is_space (digit_bytes kind bytes) ≡ true
    → mended_item kind digits bytes ≡ bytes
blank_untouched kind digits bytes h e =
    ⊎_elim
    (λ t.
    t.2
    ∙ zoned
    (λ k. (xs : List ℕ) → 1 ≤ length (digit_bytes k xs) → all is_space (digit_bytes k xs) ≡ true → valid_content k digits (attempt k xs) ≡ true → attempt k xs ≡ xs)
    (blank_3 digits) (blank_4 digits) (blank_5 digits) (blank_6 digits) kind t.0 bytes h e t.1)
    (λ p. p)
    (mended_either kind digits bytes)
