-- A field's word, told by its bytes: the test of its digits.
use Rattle.std.proofs.Common.{◌≡◌, ℕ, zero, suc, ◌+◌, ◌-◌, ◌*◌, ◌%◌, ◌<◌, ◌≤◌, Bool, true, cond, ◌&&◌, eqb, leb, List, map, length, sym, refl, ap, ◌∙◌, ap₂, zero-add, arith, eqb-true, leb-true}
use mathlib.Core.Bool.{and_assoc, and_comm, and-true}
use lib.Arith.{digits_div, digits_mod}
use lib.ListN.{length-map}
use Rattle.content.specs.Content.{all, is_digit}
use Rattle.tables.proofs.Tests.{both}
use Rattle.byte_words.specs.Words.{word_from, digit_of, digit_word, digits_in}
use Rattle.byte_words.proofs.WordLaws.{Bytes, none, more, digits-bytes}
use Rattle.eight_digits.proofs.TestLaws.{every_at, alike, alike_same}

-- a byte is a digit exactly where its digit is at most 9, and its digit is then its right half
pub digit_byte : (b : ℕ) → b < 256 → leb (digit_of b) 9 ≡ is_digit b
digit_byte b h = alike_same _ _ (every_at (λ n. alike (leb (digit_of n) 9) (is_digit n)) 256 b refl h)

pub half_byte : (b : ℕ) → b < 256 → leb (digit_of b) 9 ≡ true → digit_of b ≡ b % 16
half_byte b h e = eqb-true _ _ (rw e at (every_at (λ n. cond (leb (digit_of n) 9) (eqb (digit_of n) (n % 16)) true) 256 b refl h))

-- the test of a word says that each byte of its field is a digit
digits_more : (j n x : ℕ) → x < 256 → digits_in (suc j) (n * 256 + x) ≡ digits_in j n && leb x 9
unfolding digits_in
digits_more j n x l = rw (digits_mod n {m = 256} {r = x} l, digits_div n {m = 256} {r = x} l) (and_comm (leb x 9) (digits_in j n))

digits-parts : (j n : ℕ) {ds : List ℕ} → Bytes ds → digits_in (length ds + j) (word_from n ds) ≡ digits_in j n && all (λ d. leb d 9) ds
unfolding word_from all
digits-parts j n none = rw (zero-add j) (sym (and-true (digits_in j n)))
digits-parts j n (more {x} {xs} l h) =
    ap (λ (k : ℕ). digits_in k (word_from (n * 256 + x) xs)) {x = suc (length xs) + j} {y = length xs + suc j} (omega arith)
    ∙ digits-parts (suc j) (n * 256 + x) h
    ∙ ap (λ (t : Bool). t && all (λ d. leb d 9) xs) (digits_more j n x l)
    ∙ and_assoc (digits_in j n) (leb x 9) (all (λ d. leb d 9) xs)

no_digits : (j : ℕ) → digits_in j 0 ≡ true
unfolding digits_in
no_digits zero = refl
no_digits (suc j) = no_digits j

all_digits : {xs : List ℕ} → Bytes xs → all (λ d. leb d 9) (map digit_of xs) ≡ all is_digit xs
unfolding all
all_digits none = refl
all_digits (more {x} l h) = ap₂ ◌&&◌ (digit_byte x l) (all_digits h)

pub word_test : {xs : List ℕ} → Bytes xs → length xs ≤ 8 → digits_in 8 (digit_word xs) ≡ all is_digit xs
word_test {xs} h l =
    let most : length (map digit_of xs) + (8 - length (map digit_of xs)) ≡ 8 = omega (arith, length-map xs digit_of) in
    rw most at (digits-parts (8 - length (map digit_of xs)) 0 (digits-bytes h))
    ∙ ap (λ (t : Bool). t && all (λ d. leb d 9) (map digit_of xs)) (no_digits (8 - length (map digit_of xs)))
    ∙ all_digits h
