-- Laws of words: numbers in base 256.
use mathlib.Core.Path.{◌≡◌, refl, sym, ap, ap₂, ◌∙◌}
use mathlib.Core.List.{List, [], ◌∷◌, ◌++◌, map, map-append}
use Prim.Native.Nat.{ℕ, zero, suc, ◌+◌, ◌-◌, ◌*◌, ◌/◌, ◌%◌, ◌^◌, ◌≤◌, ◌<◌}
use native.Mathlib.Omega.{arith}
use native.Mathlib.Nat.{mul-le-mul_right, add-suc, add-zero, zero-add, suc-add, lt_of_lt_of_le}
use native.Mathlib.Numerals.{add-one}
use lib.ListN.{length, get_or, take, drop, replicate, length-drop, length-map}
use lib.Seq.{take-suc, take-nil, take-add, drop-drop, drop-cons, length-take-le}
use lib.Bits.{bit_and, bit_or, bit_xor, or_shifted, xor_block, xor_lt, and_mask}
use lib.Pow.{pow-add, pow_mono, shl_lt, shl_exact, low, high, ones_split, ones_lt}
use Rattle.byte_words.specs.Words.{word_from, digit_of, digit_word}

-- one byte more below
joined : (y k x : ℕ) → x < 256 → bit_or (y * 2 ^ (8 + k)) (x * 2 ^ k) ≡ (y * 256 + x) * 2 ^ k
joined y k x h = or_shifted y (8 + k) (x * 2 ^ k) (shl_lt 8 k h) ∙ rw (pow-add 2 8 k) (omega arith)

pub join_more : (y x k : ℕ) {z : ℕ} → z ≡ y * 2 ^ (8 + k) → x < 256 → k ≤ 56 → bit_or z (x * 2 ^ k % 2 ^ 64) ≡ (y * 256 + x) * 2 ^ k
join_more y x k e h l = ap₂ bit_or e (shl_exact 8 k 64 h (omega arith)) ∙ joined y k x h

pub join_last : (y x : ℕ) {z : ℕ} → z ≡ y * 2 ^ 8 → x < 256 → bit_or z x ≡ y * 256 + x
join_last y x e h = ap (λ (n : ℕ). bit_or n x) e ∙ or_shifted y 8 x h

-- the bits of a field's bytes
pub mask_is : (size : ℕ) → size ≤ 8 → (2 ^ 64 - 1) / 2 ^ (64 - 8 * size) ≡ 2 ^ (8 * size) - 1
mask_is size h =
    ap (λ (n : ℕ). (2 ^ n - 1) / 2 ^ (64 - 8 * size)) {x = 64} {y = 8 * size + (64 - 8 * size)} (omega arith)
    ∙ ap (λ (n : ℕ). n / 2 ^ (64 - 8 * size)) (ones_split (8 * size) (64 - 8 * size))
    ∙ high (2 ^ (8 * size) - 1) (64 - 8 * size) (ones_lt (64 - 8 * size))

-- bytes, each below 256
pub data Bytes : List ℕ → Type 0 where
  none : Bytes []
  more : {x : ℕ} {xs : List ℕ} → x < 256 → Bytes xs → Bytes (x ∷ xs)

pub bytes_of : (xs : List ℕ) → ((i : ℕ) → get_or xs i 0 < 256) → Bytes xs
bytes_of [] h = none
bytes_of (x ∷ xs) h = more (h 0) (bytes_of xs (λ i. h (suc i)))

pub bytes_take : (n : ℕ) {xs : List ℕ} → Bytes xs → Bytes (take n xs)
bytes_take zero h = none
bytes_take (suc n) none = none
bytes_take (suc n) (more x h) = more x (bytes_take n h)

pub bytes_drop : (n : ℕ) {xs : List ℕ} → Bytes xs → Bytes (drop n xs)
bytes_drop zero h = h
bytes_drop (suc n) none = none
bytes_drop (suc n) (more x h) = bytes_drop n h

-- the bits of hex 30 turned over in each byte
pub turned-over : (n m : ℕ) {xs : List ℕ} → Bytes xs
    → bit_xor (word_from n xs) (word_from m (replicate (length xs) 0x30)) ≡ word_from (bit_xor n m) (map digit_of xs)
unfolding word_from
turned-over n m none = refl
turned-over n m (more {x} {xs} l h) =
    turned-over (n * 256 + x) (m * 256 + 0x30) h
    ∙ ap (λ (k : ℕ). word_from k (map digit_of xs)) (xor_block 8 n m x 0x30 l (omega arith))

pub digit_below : (b : ℕ) → b < 256 → digit_of b < 256
digit_below b h = xor_lt 8 b 0x30 h (omega arith)

pub digits-bytes : {xs : List ℕ} → Bytes xs → Bytes (map digit_of xs)
digits-bytes none = none
digits-bytes (more {x} l h) = more (digit_below x l) (digits-bytes h)

-- a word's last bytes
pub eight_more : (k : ℕ) → 2 ^ (8 * suc k) ≡ 256 * 2 ^ (8 * k)
eight_more k = ap (λ (n : ℕ). 2 ^ n) {x = 8 * suc k} {y = 8 + 8 * k} (omega arith) ∙ pow-add 2 8 (8 * k)

pub word-parts : (n : ℕ) (xs : List ℕ) → word_from n xs ≡ n * 2 ^ (8 * length xs) + word_from 0 xs
unfolding word_from
word-parts n [] = omega arith
word-parts n (x ∷ xs) =
    omega (arith, word-parts (n * 256 + x) xs, word-parts (0 * 256 + x) xs, ap (λ (k : ℕ). n * k) (eight_more (length xs)))

pub word_below : {xs : List ℕ} → Bytes xs → word_from 0 xs < 2 ^ (8 * length xs)
unfolding word_from
word_below none = omega arith
word_below (more {x} {xs} l h) =
    let most : 0 * 256 + x ≤ 255 = omega arith in
    omega (arith, word-parts (0 * 256 + x) xs, eight_more (length xs), word_below h, mul-le-mul_right (2 ^ (8 * length xs)) most)

pub word-append : (n : ℕ) (xs ys : List ℕ) → word_from n (xs ++ ys) ≡ word_from (word_from n xs) ys
unfolding word_from
word-append n [] ys = refl
word-append n (x ∷ xs) ys = word-append (n * 256 + x) xs ys

pub last_bytes : (xs : List ℕ) {ys : List ℕ} → Bytes ys → word_from 0 (xs ++ ys) % 2 ^ (8 * length ys) ≡ word_from 0 ys
last_bytes xs {ys} h =
    ap (λ (k : ℕ). k % 2 ^ (8 * length ys)) (word-append 0 xs ys ∙ word-parts (word_from 0 xs) ys)
    ∙ low (word_from 0 xs) (8 * length ys) (word_below h)

-- the elements from a place on, one by one
abbrev pub listed : List ℕ → ℕ → ℕ → ℕ → List ℕ
listed xs at k zero = []
listed xs at k (suc n) = get_or xs (at + k) 0 ∷ listed xs at (suc k) n

pub take-listed : (xs : List ℕ) (at k n : ℕ) → at + k + n ≤ length xs → take n (drop (at + k) xs) ≡ listed xs at k n
take-listed xs at k zero h = refl
take-listed xs at k (suc n) h =
    rw (drop-cons xs (at + k) 0 (omega arith), ← add-suc at k) (ap (λ (l : List ℕ). get_or xs (at + k) 0 ∷ l) (take-listed xs at (suc k) n (omega arith)))

pub eight_listed : (xs : List ℕ) (at : ℕ) {word : ℕ} → at + 8 ≤ length xs
    → word ≡ word_from 0
    (get_or xs at 0 ∷ get_or xs (at + 1) 0 ∷ get_or xs (at + 2) 0 ∷ get_or xs (at + 3) 0
    ∷ get_or xs (at + 4) 0 ∷ get_or xs (at + 5) 0 ∷ get_or xs (at + 6) 0 ∷ get_or xs (at + 7) 0 ∷ [])
    → word ≡ word_from 0 (take 8 (drop at xs))
eight_listed xs at h e = e ∙ ap (word_from 0) (sym (rw (add-zero at) at (take-listed xs at 0 8 (omega arith))))

-- the first four, after four bytes of 0, with the bits of hex 30 turned over
pub four_listed : {xs : List ℕ} → Bytes xs → 4 ≤ length xs → {word : ℕ}
    → word ≡ word_from 0 (0 ∷ 0 ∷ 0 ∷ 0 ∷ get_or xs 0 0 ∷ get_or xs 1 0 ∷ get_or xs 2 0 ∷ get_or xs 3 0 ∷ [])
    → bit_xor word 0x30303030 ≡ digit_word (take 4 xs)
unfolding word_from
four_listed {xs} b h e =
    ap (λ (n : ℕ). bit_xor n 0x30303030) (e ∙ ap (word_from 0) (sym (take-listed xs 0 0 4 (omega arith))))
    ∙ (rw (length-take-le 4 xs h) at (turned-over 0 0 (bytes_take 4 b)))

-- a field is the end of the 8 bytes before its end
pub ends_there : (xs : List ℕ) (end size : ℕ) → 8 ≤ end → size ≤ 8
    → take 8 (drop (end - 8) xs) ≡ take (8 - size) (drop (end - 8) xs) ++ take size (drop (end - size) xs)
ends_there xs end size h l =
    ap (λ (n : ℕ). take n (drop (end - 8) xs)) {x = 8} {y = 8 - size + size} (omega arith)
    ∙ take-add (8 - size) size (drop (end - 8) xs)
    ∙ ap (λ (ys : List ℕ). take (8 - size) (drop (end - 8) xs) ++ take size ys)
    (drop-drop (8 - size) (end - 8) xs ∙ ap (λ (n : ℕ). drop n xs) {x = end - 8 + (8 - size)} {y = end - size} (omega arith))

module _ {xs : List ℕ} (bytes : Bytes xs) (end size : ℕ) (eight : 8 ≤ end) (within : end ≤ length xs) (most : size ≤ 8) where
  before : List ℕ
  before = take 8 (drop (end - 8) xs)

  field : List ℕ
  field = take size (drop (end - size) xs)

  field_length : length (map digit_of field) ≡ size
  unfolding field
  field_length = length-map field digit_of ∙ length-take-le size (drop (end - size) xs) (omega (arith, length-drop (end - size) xs))

  over : bit_xor (word_from 0 before) 0x3030303030303030 ≡ word_from 0 (map digit_of before)
  unfolding before word_from
  over =
      rw (length-take-le 8 (drop (end - 8) xs) (omega (arith, length-drop (end - 8) xs)))
      at (turned-over 0 0 (bytes_take 8 (bytes_drop (end - 8) bytes)))

  pub field_is : bit_and (bit_xor (word_from 0 (take 8 (drop (end - 8) xs))) 0x3030303030303030) (2 ^ (8 * size) - 1)
      ≡ digit_word (take size (drop (end - size) xs))
  unfolding before field
  field_is =
      and_mask (bit_xor (word_from 0 before) 0x3030303030303030) (8 * size)
      ∙ ap (λ (n : ℕ). n % 2 ^ (8 * size))
      (over
      ∙ ap (λ (l : List ℕ). word_from 0 (map digit_of l)) (ends_there xs end size eight most)
      ∙ ap (word_from 0) (map-append digit_of (take (8 - size) (drop (end - 8) xs)) field))
      ∙ rw field_length at (last_bytes (map digit_of (take (8 - size) (drop (end - 8) xs))) (digits-bytes (bytes_take size (bytes_drop (end - size) bytes))))

-- a part of a part
pub drop-take : (n m : ℕ) (xs : List ℕ) → drop n (take (n + m) xs) ≡ take m (drop n xs)
drop-take zero m xs = rw (zero-add m)
drop-take (suc n) m [] = rw (take-nil (suc n + m), take-nil m)
drop-take (suc n) m (x ∷ xs) = rw (suc-add n m) (drop-take n m xs)

-- the word of the first bytes: one byte more, and room for it
pub word_more : (xs : List ℕ) (i : ℕ) → i < length xs → digit_word (take (i + 1) xs) ≡ digit_word (take i xs) * 256 + digit_of (get_or xs i 0)
unfolding word_from
word_more xs i h =
    rw (add-one i, take-suc xs i 0 h, map-append digit_of (take i xs) (get_or xs i 0 ∷ [])) (word-append 0 (map digit_of (take i xs)) (digit_of (get_or xs i 0) ∷ []))

pub word_room : {xs : List ℕ} → Bytes xs → (i : ℕ) → i < length xs → length xs ≤ 8 → digit_word (take i xs) < 2 ^ 56
word_room {xs} h i l m =
    let few : length (map digit_of (take i xs)) ≤ 7 = omega (arith, length-map (take i xs) digit_of, length-take-le i xs (omega arith)) in
    lt_of_lt_of_le (word_below (digits-bytes (bytes_take i h))) (pow_mono {i = 8 * length (map digit_of (take i xs))} {j = 56} (omega arith))
