-- The number that a word's digits write, its bytes' right halves taken by twos, by fours and by eights.
use Rattle.std.proofs.Common.{◌≡◌, ℕ, zero, suc, ◌+◌, ◌-◌, ◌*◌, ◌/◌, ◌%◌, ◌^◌, ◌<◌, ◌≤◌, List, map, length, sym, refl, ap, ◌∙◌, ap₂, mod-lt, zero-add, arith}
use lib.Arith.{digits_div}
use lib.Bits.{bit_and, and_block, and_mask, and_zero_r, xor_mod, xor_zero_r}
use Rattle.content.specs.Content.{number_from}
use Rattle.byte_words.specs.Words.{word_from, digit_of, digit_word, value_in}
use Rattle.byte_words.proofs.WordLaws.{Bytes, none, more, digit_below}
use Rattle.eight_digits.proofs.TestLaws.{each, split_word}

-- the right halves of a word's k lowest bytes
unfoldable halves : ℕ → ℕ → ℕ
halves zero word = 0
halves (suc k) word = halves k (word / 256) * 256 + word % 16

half : (x : ℕ) → bit_and (x % 256) 0x0f ≡ x % 16
half x = let e : bit_and (x % 256) 0x0f ≡ x % 256 % 16 = and_mask (x % 256) 4 in omega arith

halves_are : (k word : ℕ) → bit_and word (each 0x0f k) ≡ halves k word
unfolding each halves
halves_are zero word = and_zero_r word
halves_are (suc k) word =
    ap (λ (n : ℕ). bit_and n (each 0x0f k * 256 + 0x0f)) (sym (split_word word))
    ∙ and_block 8 (word / 256) (each 0x0f k) (word % 256) 0x0f (mod-lt word (omega arith)) (omega arith)
    ∙ ap₂ (λ (m n : ℕ). m * 256 + n) (halves_are k (word / 256)) (half word)

-- of two bytes the right one is kept
keep : (t m x y : ℕ) → x < 256 → y < 256 → bit_and (t * 65536 + (x * 256 + y)) (m * 65536 + 0xff) ≡ bit_and t m * 65536 + y
keep t m x y h g =
    let e : bit_and (x * 256 + y) 0xff ≡ (x * 256 + y) % 256 = and_mask (x * 256 + y) 8 in
    and_block 16 t m (x * 256 + y) 0xff (omega arith) (omega arith) ∙ ap (λ (n : ℕ). bit_and t m * 65536 + n) (e ∙ omega arith)

-- and of four the right two
keep_two : (t m x y : ℕ) → x < 65536 → y < 65536 → bit_and (t * 4294967296 + (x * 65536 + y)) (m * 4294967296 + 0xffff) ≡ bit_and t m * 4294967296 + y
keep_two t m x y h g =
    let e : bit_and (x * 65536 + y) 0xffff ≡ (x * 65536 + y) % 65536 = and_mask (x * 65536 + y) 16 in
    and_block 32 t m (x * 65536 + y) 0xffff (omega arith) (omega arith) ∙ ap (λ (n : ℕ). bit_and t m * 4294967296 + n) (e ∙ omega arith)

-- eight digits, the first highest
abbrev ones : ℕ → ℕ → ℕ → ℕ → ℕ → ℕ → ℕ → ℕ → ℕ
ones a b c d e f g h = ((((((a * 256 + b) * 256 + c) * 256 + d) * 256 + e) * 256 + f) * 256 + g) * 256 + h

abbrev twos : ℕ → ℕ → ℕ → ℕ → ℕ
twos p q r s = ((p * 65536 + q) * 65536 + r) * 65536 + s

by_twos : (a b c d e f g h : ℕ) → a < 16 → b < 16 → c < 16 → d < 16 → e < 16 → f < 16 → g < 16 → h < 16
    → bit_and (ones a b c d e f g h + ones a b c d e f g h / 256 * 10) 0x00ff00ff00ff00ff ≡ twos (a * 10 + b) (c * 10 + d) (e * 10 + f) (g * 10 + h)
by_twos a b c d e f g h la lb lc ld le lf lg lh =
    let sum : ones a b c d e f g h + ones a b c d e f g h / 256 * 10
    ≡ (((0 * 65536 + (a * 256 + (a * 10 + b))) * 65536 + ((b * 10 + c) * 256 + (c * 10 + d))) * 65536 + ((d * 10 + e) * 256 + (e * 10 + f))) * 65536
    + ((f * 10 + g) * 256 + (g * 10 + h)) = omega arith in
    ap (λ (n : ℕ). bit_and n 0x00ff00ff00ff00ff) sum
    ∙ keep ((((0 * 65536 + (a * 256 + (a * 10 + b))) * 65536 + ((b * 10 + c) * 256 + (c * 10 + d))) * 65536) + ((d * 10 + e) * 256 + (e * 10 + f))) 0x00ff00ff00ff
    (f * 10 + g) (g * 10 + h) (omega arith) (omega arith)
    ∙ ap (λ (n : ℕ). n * 65536 + (g * 10 + h))
    (keep ((0 * 65536 + (a * 256 + (a * 10 + b))) * 65536 + ((b * 10 + c) * 256 + (c * 10 + d))) 0x00ff00ff (d * 10 + e) (e * 10 + f) (omega arith) (omega arith)
    ∙ ap (λ (n : ℕ). n * 65536 + (e * 10 + f))
    (keep (0 * 65536 + (a * 256 + (a * 10 + b))) 0x00ff (b * 10 + c) (c * 10 + d) (omega arith) (omega arith)
    ∙ ap (λ (n : ℕ). n * 65536 + (c * 10 + d)) (keep 0 0 a (a * 10 + b) (omega arith) (omega arith) ∙ zero-add (a * 10 + b))))

by_fours : (p q r s : ℕ) → p ≤ 165 → q ≤ 165 → r ≤ 165 → s ≤ 165
    → bit_and (twos p q r s + twos p q r s / 65536 * 100) 0x0000ffff0000ffff ≡ (p * 100 + q) * 4294967296 + (r * 100 + s)
by_fours p q r s lp lq lr ls =
    let sum : twos p q r s + twos p q r s / 65536 * 100
    ≡ (0 * 4294967296 + (p * 65536 + (p * 100 + q))) * 4294967296 + ((q * 100 + r) * 65536 + (r * 100 + s)) = omega arith in
    ap (λ (n : ℕ). bit_and n 0x0000ffff0000ffff) sum
    ∙ keep_two (0 * 4294967296 + (p * 65536 + (p * 100 + q))) 0x0000ffff (q * 100 + r) (r * 100 + s) (omega arith) (omega arith)
    ∙ ap (λ (n : ℕ). n * 4294967296 + (r * 100 + s)) (keep_two 0 0 p (p * 100 + q) (omega arith) (omega arith) ∙ zero-add (p * 100 + q))

by_eights : (u v : ℕ) → v < 4294967296 → bit_and (u * 4294967296 + v) 0xffffffff + (u * 4294967296 + v) / 4294967296 * 10000 ≡ u * 10000 + v
by_eights u v h =
    let e : bit_and (u * 4294967296 + v) 0xffffffff ≡ (u * 4294967296 + v) % 4294967296 = and_mask (u * 4294967296 + v) 32 in
    omega arith

-- the number of a word, step by step
pub value_is : (word : ℕ) {x y z : ℕ} → x ≡ bit_and word 0x0f0f0f0f0f0f0f0f → y ≡ bit_and (x + x / 256 * 10) 0x00ff00ff00ff00ff
    → z ≡ bit_and (y + y / 65536 * 100) 0x0000ffff0000ffff → bit_and z 0xffffffff + z / 4294967296 * 10000 ≡ value_in 8 word
unfolding value_in halves each
value_is word {x} {y} {z} ex ey ez =
    by (word / 256 / 256 / 256 / 256 / 256 / 256 / 256 % 16) (word / 256 / 256 / 256 / 256 / 256 / 256 % 16) (word / 256 / 256 / 256 / 256 / 256 % 16)
    (word / 256 / 256 / 256 / 256 % 16) (word / 256 / 256 / 256 % 16) (word / 256 / 256 % 16) (word / 256 % 16) (word % 16)
    (mod-lt _ (omega arith)) (mod-lt _ (omega arith)) (mod-lt _ (omega arith)) (mod-lt _ (omega arith)) (mod-lt _ (omega arith)) (mod-lt _ (omega arith))
    (mod-lt _ (omega arith)) (mod-lt _ (omega arith)) (ex ∙ halves_are 8 word)
  where
    by : (a b c d e f g h : ℕ) → a < 16 → b < 16 → c < 16 → d < 16 → e < 16 → f < 16 → g < 16 → h < 16
        → x ≡ (((((((0 * 256 + a) * 256 + b) * 256 + c) * 256 + d) * 256 + e) * 256 + f) * 256 + g) * 256 + h
        → bit_and z 0xffffffff + z / 4294967296 * 10000 ≡ (((((((0 * 10 + a) * 10 + b) * 10 + c) * 10 + d) * 10 + e) * 10 + f) * 10 + g) * 10 + h
    by a b c d e f g h la lb lc ld le lf lg lh m =
        let o : x ≡ ones a b c d e f g h = omega arith in
        let t : y ≡ twos (a * 10 + b) (c * 10 + d) (e * 10 + f) (g * 10 + h) =
        ey ∙ ap (λ (n : ℕ). bit_and (n + n / 256 * 10) 0x00ff00ff00ff00ff) o ∙ by_twos a b c d e f g h la lb lc ld le lf lg lh in
        let u : z ≡ ((a * 10 + b) * 100 + (c * 10 + d)) * 4294967296 + ((e * 10 + f) * 100 + (g * 10 + h)) =
        ez ∙ ap (λ (n : ℕ). bit_and (n + n / 65536 * 100) 0x0000ffff0000ffff) t
        ∙ by_fours (a * 10 + b) (c * 10 + d) (e * 10 + f) (g * 10 + h) (omega arith) (omega arith) (omega arith) (omega arith) in
        ap (λ (n : ℕ). bit_and n 0xffffffff + n / 4294967296 * 10000) u
        ∙ by_eights ((a * 10 + b) * 100 + (c * 10 + d)) ((e * 10 + f) * 100 + (g * 10 + h)) (omega arith)
        ∙ omega arith

-- a digit is the right half of its byte
same_half : (b : ℕ) → digit_of b % 16 ≡ b % 16
same_half b = xor_mod b 0x30 4 ∙ xor_zero_r (b % 16)

value_from : (j n : ℕ) {xs : List ℕ} → Bytes xs → value_in (length xs + j) (word_from n (map digit_of xs)) ≡ number_from (value_in j n) xs
unfolding word_from number_from value_in
value_from j n none = rw (zero-add j)
value_from j n (more {x} {xs} l h) =
    let d : (n * 256 + digit_of x) / 256 ≡ n = digits_div n {m = 256} {r = digit_of x} (digit_below x l) in
    let r : (n * 256 + digit_of x) % 16 ≡ x % 16 = omega (arith, same_half x) in
    ap (λ (k : ℕ). value_in k (word_from (n * 256 + digit_of x) (map digit_of xs))) {x = suc (length xs) + j} {y = length xs + suc j} (omega arith)
    ∙ value_from (suc j) (n * 256 + digit_of x) h
    ∙ ap₂ (λ (a b : ℕ). number_from (value_in j a * 10 + b) xs) d r

-- the word of up to eight digits writes the number that they write
no_value : (k : ℕ) → value_in k 0 ≡ 0
unfolding value_in
no_value zero = refl
no_value (suc k) = rw (no_value k)

pub word_value : {xs : List ℕ} → Bytes xs → length xs ≤ 8 → value_in 8 (digit_word xs) ≡ number_from 0 xs
word_value {xs} h l =
    let most : length xs + (8 - length xs) ≡ 8 = omega arith in
    rw (most, no_value (8 - length xs)) at (value_from (8 - length xs) 0 h)
