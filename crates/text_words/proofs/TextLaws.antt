-- Laws of the words of texts: how they are made, and that two texts are ordered as their words are.
use mathlib.Core.Path.{◌≡◌, refl, sym, ap, ap₂, ◌∙◌}
use mathlib.Core.List.{List, [], ◌∷◌, ◌++◌}
use Prim.Native.Nat.{ℕ, zero, suc, ◌+◌, ◌-◌, ◌*◌, ◌%◌, ◌^◌, ◌≤◌, ◌<◌, max}
use native.Mathlib.Omega.{arith}
use native.Mathlib.Numerals.{add-one}
use native.Mathlib.Decide.{dec_lt}
use native.Mathlib.Nat.{lt_of_lt_of_le}
use lib.Bits.{bit_and, bit_or, and_mask, or_shifted}
use lib.Pow.{pow_mono, shl_exact}
use lib.ListN.{length, get_or, take, drop, replicate, length-drop, length-append, length-replicate, replicate-append-replicate}
use lib.Seq.{take-suc, take_all, length-take-le}
use Rattle.std.specs.declared.cmp.Ordering.{Ordering}
use Rattle.std.specs.declared.cmp.Ordering.TheVariants.{Less, Equal, Greater}
use Rattle.compare.specs.Order.{order}
use Rattle.compare.specs.Compared.{then_order, byte_order, filled, character_order}
use Rattle.compare.proofs.OrderLaws.{order_lt, order_eq, order_gt}
use Rattle.numbers.proofs.NumberLaws.{order_same}
use Rattle.byte_words.specs.Words.{word_from}
use Rattle.byte_words.proofs.WordLaws.{Bytes, none, more, bytes_take, bytes_drop, ends_there, last_bytes, word-append, word-parts, word_below}
use Rattle.text_words.specs.Texts.{text_word}

-- spaces
pub spaces_bytes : (k : ℕ) → Bytes (replicate k 0x20)
spaces_bytes zero = none
spaces_bytes (suc k) = more {x = 0x20} (omega arith) (spaces_bytes k)

spaces_length : (k : ℕ) → length (replicate {A = ℕ} k 0x20) ≡ k
spaces_length k = length-replicate k 0x20

eight_spaces : (k : ℕ) → k ≤ 8 → word_from 0 (replicate (8 - k) 0x20 ++ replicate k 0x20) ≡ 0x2020202020202020
unfolding word_from
eight_spaces k h =
    let eight : 8 - k + k ≡ 8 = omega arith in
    ap (word_from 0) (replicate-append-replicate (8 - k) k 0x20) ∙ rw eight refl

pub spaces_are : (k : ℕ) → k ≤ 7 → bit_and 0x2020202020202020 (2 ^ (8 * k) - 1) ≡ word_from 0 (replicate k 0x20)
spaces_are k h =
    and_mask 0x2020202020202020 (8 * k)
    ∙ ap (λ (n : ℕ). n % 2 ^ (8 * k)) (sym (eight_spaces k (omega arith)))
    ∙ rw (spaces_length k) at (last_bytes (replicate (8 - k) 0x20) (spaces_bytes k))

pub one_shifted : (k : ℕ) → k ≤ 7 → 1 * 2 ^ (8 * k) % 2 ^ 64 ≡ 2 ^ (8 * k)
one_shifted k h = shl_exact {a = 1} 1 (8 * k) 64 (omega arith) (omega arith) ∙ omega arith

-- a word with spaces after it
pub fill_is : {word : ℕ} (size n : ℕ) {blank : ℕ} → size ≤ n → n ≤ 8 → word < 2 ^ (8 * size) → blank ≡ word_from 0 (replicate (n - size) 0x20)
    → bit_or (word * 2 ^ (8 * (n - size)) % 2 ^ 64) blank ≡ word * 2 ^ (8 * (n - size)) + word_from 0 (replicate (n - size) 0x20)
fill_is {word} size n h m below e =
    ap₂ bit_or (shl_exact (8 * size) (8 * (n - size)) 64 below (omega arith)) e
    ∙ or_shifted word (8 * (n - size)) (word_from 0 (replicate (n - size) 0x20))
    (rw (spaces_length (n - size)) at (word_below (spaces_bytes (n - size))))

pub filled_is : (n : ℕ) (xs : List ℕ) {size : ℕ} → size ≡ length xs
    → word_from 0 xs * 2 ^ (8 * (n - size)) + word_from 0 (replicate (n - size) 0x20) ≡ text_word n xs
filled_is n xs e =
    rw e
    (sym
    (word-append 0 xs (replicate (n - length xs) 0x20)
    ∙ rw (spaces_length (n - length xs)) at (word-parts (word_from 0 xs) (replicate (n - length xs) 0x20))))

-- a text that ends the 8 bytes before its end
module _ {xs : List ℕ} (bytes : Bytes xs) (end size : ℕ) (eight : 8 ≤ end) (within : end ≤ length xs) (most : size ≤ 8) where
  text-length : size ≡ length (take size (drop (end - size) xs))
  text-length = sym (length-take-le size (drop (end - size) xs) (omega (arith, length-drop (end - size) xs)))

  text_is : bit_and (word_from 0 (take 8 (drop (end - 8) xs))) (2 ^ (8 * size) - 1) ≡ word_from 0 (take size (drop (end - size) xs))
  text_is =
      and_mask (word_from 0 (take 8 (drop (end - 8) xs))) (8 * size)
      ∙ ap (λ (ys : List ℕ). word_from 0 ys % 2 ^ (8 * size)) (ends_there xs end size eight most)
      ∙ rw (sym text-length) at (last_bytes (take (8 - size) (drop (end - 8) xs)) (bytes_take size (bytes_drop (end - size) bytes)))

  module _ {word low : ℕ} (w : word ≡ word_from 0 (take 8 (drop (end - 8) xs))) (m : low ≡ 2 ^ (8 * size) - 1) where
    low_bytes : bit_and word low ≡ word_from 0 (take size (drop (end - size) xs))
    low_bytes = ap₂ bit_and w m ∙ text_is

    pub text-below : bit_and word low < 2 ^ (8 * size)
    text-below = rw low_bytes (rw (sym text-length) at (word_below (bytes_take size (bytes_drop (end - size) bytes))))

    pub text-filled : (n : ℕ) {r : ℕ} → r ≡ bit_and word low * 2 ^ (8 * (n - size)) + word_from 0 (replicate (n - size) 0x20)
        → r ≡ text_word n (take size (drop (end - size) xs))
    text-filled n e =
        e
        ∙ ap (λ (k : ℕ). k * 2 ^ (8 * (n - size)) + word_from 0 (replicate (n - size) 0x20)) low_bytes
        ∙ filled_is n (take size (drop (end - size) xs)) text-length

-- the first bytes of a text: one byte more, and room for it
pub plain_more : (xs : List ℕ) (i : ℕ) → i < length xs → word_from 0 (take (i + 1) xs) ≡ word_from 0 (take i xs) * 256 + get_or xs i 0
unfolding word_from
plain_more xs i h = rw (add-one i, take-suc xs i 0 h) (word-append 0 (take i xs) (get_or xs i 0 ∷ []))

pub plain-room : {xs : List ℕ} → Bytes xs → (i : ℕ) → i < length xs → length xs ≤ 8 → word_from 0 (take i xs) < 2 ^ 56
plain-room {xs} h i l m =
    let few : length (take i xs) ≤ 7 = omega (arith, length-take-le i xs (omega arith)) in
    lt_of_lt_of_le (word_below (bytes_take i h)) (pow_mono {i = 8 * length (take i xs)} {j = 56} (omega arith))

-- all of them, and spaces
whole : (xs : List ℕ) {word i : ℕ} → word ≡ word_from 0 (take i xs) → length xs ≤ i → word ≡ word_from 0 xs
whole xs {word} {i} e h = e ∙ ap (word_from 0) (take_all i xs h)

pub plain_end : {xs : List ℕ} → Bytes xs → {word i : ℕ} → word ≡ word_from 0 (take i xs) → length xs ≤ i → word < 2 ^ (8 * length xs)
plain_end {xs} b e h = rw (whole xs e h) (word_below b)

pub plain-filled : (xs : List ℕ) (n : ℕ) {word i r : ℕ} → word ≡ word_from 0 (take i xs) → length xs ≤ i
    → r ≡ word * 2 ^ (8 * (n - length xs)) + word_from 0 (replicate (n - length xs) 0x20) → r ≡ text_word n xs
plain-filled xs n e h f =
    f ∙ ap (λ (k : ℕ). k * 2 ^ (8 * (n - length xs)) + word_from 0 (replicate (n - length xs) 0x20)) (whole xs e h) ∙ filled_is n xs refl

-- the first pair of bytes that differs decides, in the words too
then_equal : (o : Ordering) → then_order o Equal ≡ o
then_equal Less = refl
then_equal Equal = refl
then_equal Greater = refl

then_then : (a b c : Ordering) → then_order (then_order a b) c ≡ then_order a (then_order b c)
then_then Less b c = refl
then_then Equal b c = refl
then_then Greater b c = refl

byte_order_lem : (m n x y : ℕ) → x < 256 → y < 256 → order (m * 256 + x) (n * 256 + y) ≡ then_order (order m n) (order x y)
byte_order_lem m n x y h g = by (dec_lt m n) (dec_lt n m)
  where
    by : Dec (m < n) → Dec (n < m) → order (m * 256 + x) (n * 256 + y) ≡ then_order (order m n) (order x y)
    by (yes l) d = order_lt (m * 256 + x) (n * 256 + y) (omega arith) ∙ sym (ap (λ (o : Ordering). then_order o (order x y)) (order_lt m n l))
    by (no l) (yes k) = order_gt (m * 256 + x) (n * 256 + y) (omega arith) ∙ sym (ap (λ (o : Ordering). then_order o (order x y)) (order_gt m n k))
    by (no l) (no k) =
        let same : m ≡ n = omega arith in
        order_same (m * 256 + x) (n * 256 + y) x y (λ e. omega arith) (λ e. omega arith) (λ e. omega arith)
        ∙ sym (ap (λ (o : Ordering). then_order o (order x y)) (order_eq m n same))

words-order : {xs ys : List ℕ} → Bytes xs → Bytes ys → length xs ≡ length ys → (m n : ℕ)
    → order (word_from m xs) (word_from n ys) ≡ then_order (order m n) (byte_order xs ys)
unfolding word_from byte_order
words-order none none e m n = sym (then_equal (order m n))
words-order none (more l b) e m n = absurd (omega arith)
words-order (more l a) none e m n = absurd (omega arith)
words-order (more {x} {xs} l a) (more {x = y} {xs = ys} k b) e m n =
    words-order a b (omega arith) (m * 256 + x) (n * 256 + y)
    ∙ ap (λ (o : Ordering). then_order o (byte_order xs ys)) (byte_order_lem m n x y l k)
    ∙ then_then (order m n) (order x y) (byte_order xs ys)

bytes-append : {xs ys : List ℕ} → Bytes xs → Bytes ys → Bytes (xs ++ ys)
bytes-append none b = b
bytes-append (more l a) b = more l (bytes-append a b)

filled-length : (n : ℕ) (xs : List ℕ) → length xs ≤ n → length (filled n xs) ≡ n
filled-length n xs h = simp (length-append, length-replicate) (omega arith)

pub text-order : {xs ys : List ℕ} → Bytes xs → Bytes ys → {n : ℕ} → n ≡ max (length xs) (length ys)
    → order (text_word n xs) (text_word n ys) ≡ character_order xs ys
text-order {xs} {ys} a b {n} e =
    words-order (bytes-append a (spaces_bytes (n - length xs))) (bytes-append b (spaces_bytes (n - length ys)))
    (filled-length n xs (omega arith) ∙ sym (filled-length n ys (omega arith))) 0 0
    ∙ ap (λ (k : ℕ). byte_order (filled k xs) (filled k ys)) e
