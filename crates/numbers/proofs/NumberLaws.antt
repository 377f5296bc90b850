-- Laws of numbers: their order, powers of ten, numbers that digits write, and signed values at their scales.
use mathlib.Core.Path.{◌≡◌, refl, sym, ap, ap₂, ◌∙◌}
use mathlib.Core.Bool.{Bool, true, false, false≢true, ◌&&◌}
use mathlib.Core.List.{List, [], ◌∷◌, ◌++◌}
use Prim.Native.Nat.{ℕ, zero, suc, ◌+◌, ◌-◌, ◌*◌, ◌/◌, ◌%◌, ◌^◌, ◌≤◌, ◌<◌}
use native.Mathlib.Omega.{arith}
use native.Mathlib.Numerals.{add-one}
use native.Mathlib.Decide.{dec_lt}
use native.Mathlib.Nat.{zero-mul, mul_comm, mul_assoc, div-add-mod', div-lt_iff_lt-mul, div-mul-le_self, mod-lt, mul-pos, mul-lt-mul_of_pos_right}
use native.Mathlib.Nat.{mul-le-mul_left, mul-le-mul_right, le_antisymm, pow-suc, pow-le-pow_right}
use lib.Dec.{eqb, eqb-suc-zero}
use lib.IntN.{ℤ, pos, ◌*ℤ◌}
use lib.ListN.{length, get_or, take, drop, length-drop}
use lib.Pow.{pow-add}
use lib.Seq.{take-suc, take_all, take-add, length-take-le}
use borrow.Author.Tests.{eqb-true, eqb-false}
use Rattle.content.specs.Content.{all, is_digit, last_byte, but_last, number_from, signed}
use Rattle.content.specs.Packed.{left_half, right_half, packed_from}
use Rattle.std.specs.declared.cmp.Ordering.TheVariants.{Less, Equal, Greater}
use Rattle.compare.specs.Order.{order, orderℤ}
use Rattle.compare.specs.Compared.{scaled_order}
use Rattle.compare.proofs.OrderLaws.{order_lt, order_eq, order_gt}
use Rattle.byte_words.specs.Words.{digit_word, digits_in, value_in}
use Rattle.byte_words.proofs.WordLaws.{Bytes, bytes_take, bytes_drop}
use Rattle.eight_digits.proofs.DigitLaws.{word_test}
use Rattle.eight_digits.proofs.ValueLaws.{word_value}

pub order_same : (a b x y : ℕ) → (x < y → a < b) → (x ≡ y → a ≡ b) → (y < x → b < a) → order a b ≡ order x y
order_same a b x y f e g = go (dec_lt x y) (dec_lt y x)
  where
    go : Dec (x < y) → Dec (y < x) → order a b ≡ order x y
    go (yes h) d = order_lt a b (f h) ∙ sym (order_lt x y h)
    go (no n) (yes h) = order_gt a b (g h) ∙ sym (order_gt x y h)
    go (no n) (no m) = let q : x ≡ y = omega arith in order_eq a b (e q) ∙ sym (order_eq x y q)

order_scale : (k a b : ℕ) → 0 < k → order (a * k) (b * k) ≡ order a b
order_scale k a b z =
    order_same (a * k) (b * k) a b (λ h. mul-lt-mul_of_pos_right h z) (λ h. ap (λ (n : ℕ). n * k) h) (λ h. mul-lt-mul_of_pos_right h z)

-- powers of ten
pub ten_more : (i : ℕ) → 10 ^ (i + 1) ≡ 10 * 10 ^ i
ten_more i = rw (add-one, pow-suc) (mul_comm _ _)

pub ten_most : (i : ℕ) → i ≤ 18 → 10 ^ i ≤ 10 ^ 18
ten_most i h = pow-le-pow_right (omega arith) h

pub ten_pos : (s : ℕ) → 0 < 10 ^ s
ten_pos s = pow-le-pow_right {n = 10} (omega arith) {i = 0} {j = s} (omega arith)

-- the number that digits write: with one digit more, of the first i + 1 bytes, of all
number_append : (n : ℕ) (xs : List ℕ) (b : ℕ) → number_from n (xs ++ b ∷ []) ≡ number_from n xs * 10 + b % 16
unfolding number_from
number_append n [] b = refl
number_append n (x ∷ xs) b = number_append (n * 10 + x % 16) xs b

pub number_one_more : (xs : List ℕ) (i : ℕ) → i < length xs → number_from 0 (take (i + 1) xs) ≡ number_from 0 (take i xs) * 10 + get_or xs i 0 % 16
number_one_more xs i h = rw (add-one, take-suc xs i 0) (number_append 0 (take i xs) (get_or xs i 0))

pub number_last : (bytes : List ℕ) → 1 ≤ length bytes → number_from 0 (but_last bytes) * 10 + last_byte bytes % 16 ≡ number_from 0 bytes
number_last bytes h =
    sym (number_one_more bytes (length bytes - 1) (omega arith))
    ∙ ap (number_from 0) (take_all (length bytes - 1 + 1) bytes (omega arith))

-- how large it is: of 18 digits, those before one leave room for it
number-below : (n : ℕ) (xs : List ℕ) → number_from n xs + 2 ≤ (n + 2) * 10 ^ length xs
unfolding number_from
number-below n [] = omega arith
number-below n (x ∷ xs) =
    let digit : n * 10 + x % 16 + 2 ≤ (n + 2) * 10 = omega arith in
    let rest : number_from n (x ∷ xs) + 2 ≤ (n * 10 + x % 16 + 2) * 10 ^ length xs = number-below (n * 10 + x % 16) xs in
    let ten : 10 ^ suc (length xs) ≡ 10 * 10 ^ length xs = rw pow-suc (mul_comm _ _) in
    let more : (n + 2) * 10 ^ length (x ∷ xs) ≡ (n + 2) * 10 * 10 ^ length xs =
    ap (λ (t : ℕ). (n + 2) * t) ten ∙ sym (mul_assoc (n + 2) 10 (10 ^ length xs)) in
    omega (arith, more, rest, mul-le-mul_right (10 ^ length xs) digit)

number_small : (xs : List ℕ) (i : ℕ) → i ≤ length xs → number_from 0 (take i xs) + 2 ≤ 2 * 10 ^ i
number_small xs i h = rw (length-take-le i xs h) at (number-below 0 (take i xs))

pub number-room : (xs : List ℕ) (i : ℕ) → i < length xs → length xs ≤ 18 → number_from 0 (take i xs) * 10 + 20 ≤ 2 * 10 ^ 18
number-room xs i h few = omega (arith, number_small xs i (omega arith), ten_more i, ten_most (i + 1) (omega arith))

-- eight digits more
number-parts : (n : ℕ) (xs : List ℕ) → number_from n xs ≡ n * 10 ^ length xs + number_from 0 xs
unfolding number_from
number-parts n [] = omega arith
number-parts n (x ∷ xs) =
    let ten : 10 ^ suc (length xs) ≡ 10 * 10 ^ length xs = rw pow-suc (mul_comm _ _) in
    omega (arith, number-parts (n * 10 + x % 16) xs, number-parts (0 * 10 + x % 16) xs, ap (λ (k : ℕ). n * k) ten)

number-joined : (n : ℕ) (xs ys : List ℕ) → number_from n (xs ++ ys) ≡ number_from (number_from n xs) ys
unfolding number_from
number-joined n [] ys = refl
number-joined n (x ∷ xs) ys = number-joined (n * 10 + x % 16) xs ys

module _ (xs : List ℕ) (i : ℕ) (h : i + 8 ≤ length xs) where
  pub eight_there : length (take 8 (drop i xs)) ≡ 8
  eight_there = length-take-le 8 (drop i xs) (omega (arith, length-drop i xs))

  pub number_eight_more : number_from 0 (take (i + 8) xs) ≡ number_from 0 (take i xs) * 100000000 + number_from 0 (take 8 (drop i xs))
  number_eight_more =
      rw (take-add i 8 xs)
      (number-joined 0 (take i xs) (take 8 (drop i xs)) ∙ rw eight_there at (number-parts (number_from 0 (take i xs)) (take 8 (drop i xs))))

  -- told by their word
  module _ (b : Bytes xs) {word : ℕ} (w : word ≡ digit_word (take 8 (drop (i + 8 - 8) xs))) where
    word_here : word ≡ digit_word (take 8 (drop i xs))
    word_here = w ∙ ap (λ (k : ℕ). digit_word (take 8 (drop k xs))) {x = i + 8 - 8} {y = i} (omega arith)

    small : Bytes (take 8 (drop i xs))
    small = bytes_take 8 (bytes_drop i b)

    pub eight_valid : {r : Bool} → r ≡ digits_in 8 word → r ≡ all is_digit (take 8 (drop i xs))
    eight_valid e = e ∙ ap (digits_in 8) word_here ∙ word_test small (omega (arith, eight_there))

    pub eight_number : {r : ℕ} → r ≡ value_in 8 word → r ≡ number_from 0 (take 8 (drop i xs))
    eight_number e = e ∙ ap (value_in 8) word_here ∙ word_value small (omega (arith, eight_there))

  -- and room for them
  pub eight_room : length xs ≤ 18 → number_from 0 (take (i + 8) xs) ≤ 2 * 10 ^ 18
  eight_room few = omega (arith, number_small xs (i + 8) h, ten_most (i + 8) (omega arith))

-- the first digits of a field, fewer than eight, told by their word; after them there are eights
pub head_length : (xs : List ℕ) → length (take (length xs % 8) xs) ≡ length xs % 8
head_length xs = length-take-le (length xs % 8) xs (omega arith)

module _ {xs : List ℕ} (b : Bytes xs) {word : ℕ} (w : word ≡ digit_word (take (length xs % 8) xs)) where
  pub head_valid : {r : Bool} → r ≡ digits_in 8 word → r ≡ all is_digit (take (length xs % 8) xs)
  head_valid e = e ∙ ap (digits_in 8) w ∙ word_test (bytes_take (length xs % 8) b) (omega (arith, head_length xs))

  pub head_number : {r : ℕ} → r ≡ value_in 8 word → r ≡ number_from 0 (take (length xs % 8) xs)
  head_number e = e ∙ ap (value_in 8) w ∙ word_value (bytes_take (length xs % 8) b) (omega (arith, head_length xs))

-- the same of pairs of digits, and how large ten bytes can be
packed-append : (n : ℕ) (xs : List ℕ) (b : ℕ) → packed_from n (xs ++ b ∷ []) ≡ packed_from n xs * 100 + left_half b * 10 + right_half b
unfolding packed_from
packed-append n [] b = refl
packed-append n (x ∷ xs) b = packed-append (n * 100 + left_half x * 10 + right_half x) xs b

pub packed_one_more : (xs : List ℕ) (i : ℕ) → i < length xs
    → packed_from 0 (take (i + 1) xs) ≡ packed_from 0 (take i xs) * 100 + left_half (get_or xs i 0) * 10 + right_half (get_or xs i 0)
packed_one_more xs i h = rw (add-one, take-suc xs i 0) (packed-append 0 (take i xs) (get_or xs i 0))

packed-below : (n : ℕ) (xs : List ℕ) → packed_from n xs * 99 + 165 ≤ (n * 99 + 165) * 100 ^ length xs
unfolding packed_from
packed-below n [] = omega arith
packed-below n (x ∷ xs) =
    let next : ℕ = n * 100 + left_half x * 10 + right_half x in
    let digits : next * 99 + 165 ≤ (n * 99 + 165) * 100 = omega arith in
    let rest : packed_from n (x ∷ xs) * 99 + 165 ≤ (next * 99 + 165) * 100 ^ length xs = packed-below next xs in
    let hundred : 100 ^ suc (length xs) ≡ 100 * 100 ^ length xs = rw pow-suc (mul_comm _ _) in
    let more : (n * 99 + 165) * 100 ^ length (x ∷ xs) ≡ (n * 99 + 165) * 100 * 100 ^ length xs =
    ap (λ (t : ℕ). (n * 99 + 165) * t) hundred ∙ sym (mul_assoc (n * 99 + 165) 100 (100 ^ length xs)) in
    omega (arith, more, rest, mul-le-mul_right (100 ^ length xs) digits)

-- how large it is: nine bytes leave room for the digit of the tenth, and eight for the ninth byte
pub packed-room : (xs : List ℕ) (i most : ℕ) → i ≤ length xs → i ≤ most → packed_from 0 (take i xs) * 99 ≤ 165 * 100 ^ most
packed-room xs i most h few =
    let below : packed_from 0 (take i xs) * 99 + 165 ≤ 165 * 100 ^ i = rw (length-take-le i xs h) at (packed-below 0 (take i xs)) in
    let powers : 100 ^ i ≤ 100 ^ most = pow-le-pow_right (omega arith) few in
    omega (arith, below, mul-le-mul_left 165 powers)

-- D1 × 10^s2 against D2 × 10^s1: at one scale the digits decide
pub same_scale : (d1 d2 : ℕ) {s1 s2 : ℕ} → s1 ≡ s2 → order (d1 * 10 ^ s2) (d2 * 10 ^ s1) ≡ order d1 d2
same_scale d1 d2 {s1} {s2} e = rw e (order_scale (10 ^ s2) d1 d2 (ten_pos s2))

-- at two, the scale that is less is taken from both
fewer_digits : (d s t : ℕ) → s ≤ t → d * 10 ^ t ≡ d * 10 ^ (t - s) * 10 ^ s
fewer_digits d s t h =
    ap (λ (n : ℕ). d * 10 ^ n) {x = t} {y = t - s + s} (omega arith)
    ∙ ap (λ (n : ℕ). d * n) (pow-add 10 (t - s) s)
    ∙ sym (mul_assoc d (10 ^ (t - s)) (10 ^ s))

pub first_raised : (d1 d2 s1 s2 : ℕ) → s1 ≤ s2 → order (d1 * 10 ^ s2) (d2 * 10 ^ s1) ≡ order (d1 * 10 ^ (s2 - s1)) d2
first_raised d1 d2 s1 s2 h = rw (fewer_digits d1 s1 s2 h) (order_scale (10 ^ s1) (d1 * 10 ^ (s2 - s1)) d2 (ten_pos s1))

pub second_raised : (d1 d2 s1 s2 : ℕ) → s2 ≤ s1 → order (d1 * 10 ^ s2) (d2 * 10 ^ s1) ≡ order d1 (d2 * 10 ^ (s1 - s2))
second_raised d1 d2 s1 s2 h = rw (fewer_digits d2 s2 s1 h) (order_scale (10 ^ s2) d1 (d2 * 10 ^ (s1 - s2)) (ten_pos s2))

-- d × 10^k against a number: its whole part decides where it is not d, and else its rest
module _ (d k other : ℕ) {p : ℕ} (e : p ≡ 10 ^ k) where
  under : d < other / 10 ^ k → d * 10 ^ k < other
  under h = omega (arith, mul-lt-mul_of_pos_right h (ten_pos k), div-mul-le_self other (10 ^ k))

  over : other / 10 ^ k < d → other < d * 10 ^ k
  over h = (div-lt_iff_lt-mul (ten_pos k)).0 h

  same : d ≡ other / 10 ^ k → d * 10 ^ k + other % 10 ^ k ≡ other
  same h = ap (λ (n : ℕ). n * 10 ^ k + other % 10 ^ k) h ∙ div-add-mod' other (10 ^ k)

  pub first_rest : d ≡ other / p → order (d * 10 ^ k) other ≡ order 0 (other % p)
  first_rest h =
      let s = same (rw e at h) in
      rw e (order_same (d * 10 ^ k) other 0 (other % 10 ^ k) (λ l. omega arith) (λ l. omega arith) (λ l. omega arith))

  pub second_rest : other / p ≡ d → order other (d * 10 ^ k) ≡ order (other % p) 0
  second_rest h =
      let s = same (sym (rw e at h)) in
      rw e (order_same other (d * 10 ^ k) (other % 10 ^ k) 0 (λ l. omega arith) (λ l. omega arith) (λ l. omega arith))

  pub first_whole : (d ≡ other / p → ⊥) → order (d * 10 ^ k) other ≡ order d (other / p)
  first_whole n = rw e (order_same (d * 10 ^ k) other d (other / 10 ^ k) under (λ h. absurd (n (rw e h))) over)

  pub second_whole : (other / p ≡ d → ⊥) → order other (d * 10 ^ k) ≡ order (other / p) d
  second_whole n = rw e (order_same other (d * 10 ^ k) (other / 10 ^ k) d over (λ h. absurd (n (rw e h))) under)

-- the order of two values, each a sign and a magnitude
minus_minus : (a b : ℕ) → orderℤ (signed true a) (signed true b) ≡ order b a
minus_minus zero zero = refl
minus_minus zero (suc b) = sym (order_gt (suc b) 0 (omega arith))
minus_minus (suc a) zero = sym (order_lt 0 (suc a) (omega arith))
minus_minus (suc a) (suc b) = sym (order_same (suc b) (suc a) b a (λ h. omega arith) (λ h. omega arith) (λ h. omega arith))

pub minus_plus : (a b : ℕ) → 0 < a + b → orderℤ (signed true a) (signed false b) ≡ Less
minus_plus zero b h = order_lt 0 b (omega arith)
minus_plus (suc a) b h = refl

plus_minus : (a b : ℕ) → 0 < a + b → orderℤ (signed false a) (signed true b) ≡ Greater
plus_minus a zero h = order_gt a 0 (omega arith)
plus_minus a (suc b) h = refl

pub zero_zero : (m n : Bool) → orderℤ (signed m 0) (signed n 0) ≡ Equal
zero_zero true true = refl
zero_zero true false = refl
zero_zero false true = refl
zero_zero false false = refl

-- a value keeps its sign when it is scaled
scaled : (m : Bool) (d p : ℕ) → signed m d *ℤ pos p ≡ signed m (d * p)
scaled true zero p = rw (zero-mul p)
scaled true (suc d) p = refl
scaled false d p = refl

-- two values of which both are 0, or not both
both_zero : (a b : ℕ) → eqb a 0 && eqb b 0 ≡ true → (a ≡ 0) × (b ≡ 0)
both_zero zero b e = (refl, eqb-true b 0 e)
both_zero (suc a) b e = absurd (false≢true (rw (eqb-suc-zero a) at e))

not_both : (a b s t : ℕ) → eqb a 0 && eqb b 0 ≡ false → 0 < a * 10 ^ s + b * 10 ^ t
not_both zero b s t e = let n = eqb-false b 0 e in omega (arith, mul-le-mul_left b (ten_pos t))
not_both (suc a) b s t e = omega (arith, mul-le-mul_left (suc a) (ten_pos s))

-- the ways of a comparison of two values at their scales
module _ (d1 s1 d2 s2 : ℕ) where
  scaled_order_lem : (m n : Bool) → scaled_order (signed m d1) s1 (signed n d2) s2 ≡ orderℤ (signed m (d1 * 10 ^ s2)) (signed n (d2 * 10 ^ s1))
  scaled_order_lem m n = ap₂ orderℤ (scaled m d1 (10 ^ s2)) (scaled n d2 (10 ^ s1))

  pub scaled_minus : scaled_order (signed true d1) s1 (signed true d2) s2 ≡ order (d2 * 10 ^ s1) (d1 * 10 ^ s2)
  scaled_minus = scaled_order_lem true true ∙ minus_minus (d1 * 10 ^ s2) (d2 * 10 ^ s1)

  pub scaled_zero : (m n : Bool) → eqb d1 0 && eqb d2 0 ≡ true → scaled_order (signed m d1) s1 (signed n d2) s2 ≡ Equal
  scaled_zero m n e =
      let z = both_zero d1 d2 e in
      scaled_order_lem m n ∙ rw (z.0, z.1, zero-mul (10 ^ s2), zero-mul (10 ^ s1)) (zero_zero m n)

  pub scaled_less : eqb d1 0 && eqb d2 0 ≡ false → scaled_order (signed true d1) s1 (signed false d2) s2 ≡ Less
  scaled_less e = scaled_order_lem true false ∙ minus_plus (d1 * 10 ^ s2) (d2 * 10 ^ s1) (not_both d1 d2 s2 s1 e)

  pub scaled_greater : eqb d1 0 && eqb d2 0 ≡ false → scaled_order (signed false d1) s1 (signed true d2) s2 ≡ Greater
  scaled_greater e = scaled_order_lem false true ∙ plus_minus (d1 * 10 ^ s2) (d2 * 10 ^ s1) (not_both d1 d2 s2 s1 e)
