-- The test of a word, 8 bytes at once: that the left half of each byte is 0, and still is when 6 is added.
use Rattle.std.proofs.Common.{◌≡◌, ℕ, zero, suc, ◌+◌, ◌-◌, ◌*◌, ◌/◌, ◌%◌, ◌^◌, ◌<◌, ◌≤◌, Bool, true, false, cond, not, ◌&&◌, eqb, leb, sym, refl, ap, ◌∙◌, ap₂, mod-lt, mod-eq_of_lt, div-add-mod', arith, eq-eqb, ne_eqb, eqb-true, le-leb, leb-true}
use mathlib.Core.Bool.{false≢true}
use native.Mathlib.Decide.{ℕ_discrete}
use lib.Bits.{bit_and, bit_or, or_block, and_block, or_lt, or_shr, and_high, or_add_and, and_le_r, and_zero_r}
use Rattle.byte_words.proofs.WordLaws.{eight_more}
use Rattle.tables.proofs.Tests.{both}
use Rattle.byte_words.specs.Words.{digits_in}

-- the constants: one byte k times
unfoldable pub each : ℕ → ℕ → ℕ
each b zero = 0
each b (suc k) = each b k * 256 + b

-- each of the k lowest bytes is below 16
unfoldable lows : ℕ → ℕ → Bool
lows zero word = true
lows (suc k) word = leb (word % 256) 15 && lows k (word / 256)

-- the left halves of a byte and of another joined: where they are 0 the byte is below 16
left_half_lem : (x y : ℕ) → x < 256 → y < 256 → bit_and (bit_or x y) 0xf0 ≡ 0 → x ≤ 15
left_half_lem x y h g e =
    let z : bit_and (bit_or x y) 0xf0 ≡ bit_or x y / 16 % 16 * 16 = and_high (bit_or x y) 4 4 in
    let b : bit_or x y < 256 = or_lt 8 x y h g in
    let few : bit_or x y / 16 < 16 = omega arith in
    let q : bit_or x y / 16 ≡ 0 = sym (mod-eq_of_lt few) ∙ omega arith in
    let s : bit_or x y / 16 ≡ bit_or (x / 16) (y / 16) = or_shr x y 4 in
    let l = or_add_and (x / 16) (y / 16) in
    let m = and_le_r (x / 16) (y / 16) in
    let r : x / 16 ≡ 0 = omega arith in
    omega arith

-- a word and another, byte by byte
pub split_word : (x : ℕ) → x / 256 * 2 ^ 8 + x % 256 ≡ x
split_word x = div-add-mod' x 256

by_bytes : (x y m b : ℕ) → b < 256
    → bit_and (bit_or x y) (m * 256 + b) ≡ bit_and (bit_or (x / 256) (y / 256)) m * 256 + bit_and (bit_or (x % 256) (y % 256)) b
by_bytes x y m b h =
    ap₂ (λ (p q : ℕ). bit_and (bit_or p q) (m * 256 + b)) (sym (split_word x)) (sym (split_word y))
    ∙ ap (λ (n : ℕ). bit_and n (m * 256 + b)) (or_block 8 (x / 256) (y / 256) (x % 256) (y % 256) (mod-lt x (omega arith)) (mod-lt y (omega arith)))
    ∙ and_block 8 (bit_or (x / 256) (y / 256)) m (bit_or (x % 256) (y % 256)) b
    (or_lt 8 (x % 256) (y % 256) (mod-lt x (omega arith)) (mod-lt y (omega arith))) h

lows_there : (k x y : ℕ) → bit_and (bit_or x y) (each 0xf0 k) ≡ 0 → lows k x ≡ true
unfolding each lows
lows_there zero x y e = refl
lows_there (suc k) x y e =
    let s : bit_and (bit_or (x / 256) (y / 256)) (each 0xf0 k) * 256 + bit_and (bit_or (x % 256) (y % 256)) 0xf0 ≡ 0 =
    sym (by_bytes x y (each 0xf0 k) 0xf0 (omega arith)) ∙ e in
    let l : x % 256 ≤ 15 = left_half_lem (x % 256) (y % 256) (mod-lt x (omega arith)) (mod-lt y (omega arith)) (omega arith) in
    rw (le-leb (x % 256) 15 l) (lows_there k (x / 256) (y / 256) (omega arith))

-- a test of every number below one, computed, and what it says of each
abbrev pub every : (ℕ → Bool) → ℕ → Bool
every test zero = true
every test (suc n) = test n && every test n

pub every_at : (test : ℕ → Bool) (n x : ℕ) → every test n ≡ true → x < n → test x ≡ true
every_at test zero x e h = absurd (omega arith)
every_at test (suc n) x e h = by (ℕ_discrete x n) (every_at test n x (both (test n) (every test n) e).1)
  where
    by : Dec (x ≡ n) → (x < n → test x ≡ true) → test x ≡ true
    by (yes p) rest = rw p (both (test n) (every test n) e).0
    by (no p) rest = rest (omega arith)

abbrev pub alike : Bool → Bool → Bool
alike a b = cond a b (not b)

pub alike_same : (a b : Bool) → alike a b ≡ true → a ≡ b
alike_same true true e = refl
alike_same true false e = absurd (false≢true e)
alike_same false true e = absurd (false≢true e)
alike_same false false e = refl

-- where they are all below 16 nothing is carried, and a byte has 0 on the left with 6 added exactly where it is at most 9
nine : (x : ℕ) → x ≤ 15 → eqb (bit_and (bit_or x (x + 6)) 0xf0) 0 ≡ leb x 9
nine x h = alike_same _ _ (every_at (λ n. alike (eqb (bit_and (bit_or n (n + 6)) 0xf0) 0) (leb n 9)) 16 x refl (omega arith))

below_more : (k x : ℕ) → x < 2 ^ (8 * suc k) → x / 256 < 2 ^ (8 * k)
below_more k x h = omega (arith, eight_more k)

low_first : (k x : ℕ) → lows (suc k) x ≡ true → (x % 256 ≤ 15) × (lows k (x / 256) ≡ true)
unfolding lows
low_first k x e = let p = both (leb (x % 256) 15) (lows k (x / 256)) e in (leb-true _ _ p.0, p.1)

six_fits : (k x : ℕ) → lows k x ≡ true → x < 2 ^ (8 * k) → x + each 6 k < 2 ^ (8 * k)
unfolding each
six_fits zero x e h = omega arith
six_fits (suc k) x e h =
    let l = low_first k x e in
    omega (arith, eight_more k, six_fits k (x / 256) l.1 (below_more k x h), l.0)

both_zero : (a b : ℕ) → eqb (a * 256 + b) 0 ≡ eqb b 0 && eqb a 0
both_zero a b = by (ℕ_discrete b 0) (ℕ_discrete a 0)
  where
    by : Dec (b ≡ 0) → Dec (a ≡ 0) → eqb (a * 256 + b) 0 ≡ eqb b 0 && eqb a 0
    by (yes p) (yes q) = rw (p, q)
    by (yes p) (no q) = rw (ne_eqb (a * 256 + b) 0 (λ e. omega arith), ne_eqb a 0 q, eq-eqb b 0 p)
    by (no p) d = rw (ne_eqb (a * 256 + b) 0 (λ e. omega arith), ne_eqb b 0 p)

tested : (k x : ℕ) → lows k x ≡ true → eqb (bit_and (bit_or x (x + each 6 k)) (each 0xf0 k)) 0 ≡ digits_in k x
unfolding each digits_in
tested zero x e = eq-eqb _ 0 (and_zero_r (bit_or x (x + 0)))
tested (suc k) x e =
    let l = low_first k x e in
    let y : ℕ = x + (each 6 k * 256 + 6) in
    let q : y / 256 ≡ x / 256 + each 6 k = omega (arith, l.0) in
    let r : y % 256 ≡ x % 256 + 6 = omega (arith, l.0) in
    ap (λ (n : ℕ). eqb n 0) (by_bytes x y (each 0xf0 k) 0xf0 (omega arith))
    ∙ both_zero (bit_and (bit_or (x / 256) (y / 256)) (each 0xf0 k)) (bit_and (bit_or (x % 256) (y % 256)) 0xf0)
    ∙ ap₂ (λ (m n : ℕ). eqb (bit_and (bit_or (x % 256) m) 0xf0) 0 && eqb (bit_and (bit_or (x / 256) n) (each 0xf0 k)) 0) r q
    ∙ ap₂ (λ (s t : Bool). s && t) (nine (x % 256) l.0) (tested k (x / 256) l.1)

-- a word of digits has no byte above 15
digits_low : (k x : ℕ) → digits_in k x ≡ true → lows k x ≡ true
unfolding digits_in lows
digits_low zero x e = refl
digits_low (suc k) x e =
    let p = both (leb (x % 256) 9) (digits_in k (x / 256)) e in
    let l = leb-true (x % 256) 9 p.0 in
    rw (le-leb (x % 256) 15 (omega arith)) (digits_low k (x / 256) p.1)

pub test_is : (x sum : ℕ) → x < 2 ^ 64 → sum ≡ (x + 0x0606060606060606) % 2 ^ 64
    → eqb (bit_and (bit_or x sum) 0xf0f0f0f0f0f0f0f0) 0 ≡ digits_in 8 x
unfolding each
test_is x sum h e = iff _ _ there back
  where
    six : lows 8 x ≡ true → sum ≡ x + each 6 8
    six l = e ∙ mod-eq_of_lt (six_fits 8 x l h)

    there : eqb (bit_and (bit_or x sum) 0xf0f0f0f0f0f0f0f0) 0 ≡ true → digits_in 8 x ≡ true
    there t =
        let l = lows_there 8 x sum (eqb-true _ 0 t) in
        sym (tested 8 x l) ∙ ap (λ (n : ℕ). eqb (bit_and (bit_or x n) (each 0xf0 8)) 0) (sym (six l)) ∙ t

    back : digits_in 8 x ≡ true → eqb (bit_and (bit_or x sum) 0xf0f0f0f0f0f0f0f0) 0 ≡ true
    back d =
        let l = digits_low 8 x d in
        ap (λ (n : ℕ). eqb (bit_and (bit_or x n) (each 0xf0 8)) 0) (six l) ∙ tested 8 x l ∙ d

    iff : (a b : Bool) → (a ≡ true → b ≡ true) → (b ≡ true → a ≡ true) → a ≡ b
    iff true b f g = sym (f refl)
    iff false true f g = g refl
    iff false false f g = refl
