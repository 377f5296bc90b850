-- Two fields of digits, told by their words.
use mathlib.Core.Path.{◌≡◌, refl, sym, ap, ap₂, ◌∙◌}
use mathlib.Core.Bool.{Bool, true, cond, ◌&&◌}
use mathlib.Core.List.{List, map}
use Prim.Native.Nat.{ℕ, ◌%◌}
use borrow.Author.Tests.{leb-true}
use Rattle.content.specs.Content.{all, is_digit, number_from}
use Rattle.tables.proofs.Tests.{both}
use Rattle.compare.specs.Order.{order}
use Rattle.byte_words.specs.Words.{word_from, digit_of, digit_word}
use Rattle.byte_words.proofs.WordLaws.{Bytes, none, more}
use Rattle.eight_digits.proofs.DigitLaws.{digit_byte, half_byte}
use Rattle.digit_words.proofs.OrderLaws.{Alike, nought, digit, alike-order}

-- two fields of digits are ordered as their words are
number-alike : {xs : List ℕ} → Bytes xs → all is_digit xs ≡ true → {n w : ℕ} → Alike n w → Alike (number_from n xs) (word_from w (map digit_of xs))
unfolding number_from word_from all
number-alike none e a = a
number-alike (more {x} {xs} l h) e {n} {w} a =
    let d = both (is_digit x) (all is_digit xs) e in
    let nine = digit_byte x l ∙ d.0 in
    number-alike h d.1 (rw (← half_byte x l nine) (digit (digit_of x) (leb-true _ _ nine) a))

pub word-order : {xs ys : List ℕ} → Bytes xs → Bytes ys → all is_digit xs ≡ true → all is_digit ys ≡ true
    → order (digit_word xs) (digit_word ys) ≡ order (number_from 0 xs) (number_from 0 ys)
word-order a b d e = alike-order (number-alike a d nought) (number-alike b e nought)
