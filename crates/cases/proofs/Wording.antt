-- A byte that is looked for, and digits, one after the other.
use mathlib.Core.Path.{◌≡◌, ap}
use mathlib.Core.Bool.{cond, ◌&&◌}
use mathlib.Core.Logic.{◌⊎◌, ⊎_elim}
use mathlib.Core.List.{List}
use Prim.Native.Nat.{ℕ, suc, ◌+◌, ◌-◌, ◌≤◌, ◌<◌}
use native.Mathlib.Omega.{arith}
use native.Mathlib.Numerals.{add-one}
use borrow.Author.Tests.{eq-eqb, ne_eqb, le-leb, lt-leb}
use lib.Dec.{leb}
use lib.ListN.{length, drop, get_or, drop_of_length-le}
use lib.Seq.{drop-cons}
use Rattle.cases.specs.Words.{before, digit_of, appended, digits_from}

module _ (text : List ℕ) (byte at : ℕ) where
  pub found_here : at < length text → get_or text at 0 ≡ byte → length (before byte (drop at text)) ≡ 0
  unfolding before
  found_here h e = rw (drop-cons text at 0 h, eq-eqb (get_or text at 0) byte e)

  pub not_here : at < length text → (get_or text at 0 ≡ byte → ⊥) → length (before byte (drop at text)) ≡ suc (length (before byte (drop (at + 1) text)))
  unfolding before
  not_here h e = rw (drop-cons text at 0 h, ne_eqb (get_or text at 0) byte e, add-one at)

  pub nowhere : length text ≤ at → length (before byte (drop at text)) ≡ 0
  unfolding before
  nowhere h = rw (drop_of_length-le text {i = at} h)

pub one_digit : (text : List ℕ) (radix value i after : ℕ) → i < length text → after ≡ appended radix value (digit_of (get_or text i 0))
    → digits_from radix after (drop (i + 1) text) ≡ digits_from radix value (drop i text)
unfolding digits_from
one_digit text radix value i after h a = rw (add-one i, a, drop-cons text i 0 h)

pub all_digits : (text : List ℕ) (radix value i : ℕ) → length text ≤ i → digits_from radix value (drop i text) ≡ value
unfolding digits_from
all_digits text radix value i h = ap (digits_from radix value) (drop_of_length-le text {i = i} h)

-- a word that starts with no digit
pub other_word : (b n w : ℕ) → (b < 0x30) ⊎ (0x39 < b) → w ≡ cond (leb 0x30 b && leb b 0x39) n w
other_word b n w =
    ⊎_elim (λ h. rw (lt-leb 0x30 b h))
    (λ h. let few : 0x30 ≤ b = omega arith in rw (le-leb 0x30 b few, lt-leb b 0x39 h))
