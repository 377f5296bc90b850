-- The meaning of a word of the vocabulary, by its number.
use mathlib.Core.Path.{◌≡◌, refl, sym, ap, ◌∙◌}
use mathlib.Core.Bool.{Bool, true, false, cond, false≢true}
use mathlib.Core.List.{List, [], ◌∷◌, map}
use Prim.Native.Nat.{ℕ, zero, suc, ◌+◌, ◌-◌, ◌≤◌, ◌<◌}
use native.Mathlib.Omega.{arith}
use lib.Dec.{eqb}
use lib.ListN.{length, get_or}
use borrow.Author.Tests.{eqb-true}
use Rattle.description.specs.Grammar.{same}
use Rattle.spelling.specs.Keywords.{Meaning, alone, item, value, order, equal, faulty, Keyword, keyword, vocabulary}
use Rattle.spelling.specs.Meanings.{position, lookup}
use Rattle.vocabulary.proofs.Cells.{all_below, below}
use Rattle.std.specs.Prelude.{Ok, Err}
use Rattle.senses.specs.declared.Sense.TheVariants.{Token}
use Rattle.senses.specs.Senses.{sense_of, meaning_at}

abbrev is_alone : ℕ → Meaning → Bool
is_alone t (alone u) = eqb u t
is_alone t (item u) = false
is_alone t (value l) = false
is_alone t (order p j) = false
is_alone t equal = false
is_alone t (faulty n) = false

alone_is : (t : ℕ) (m : Meaning) → is_alone t m ≡ true → Ok (Token t) ≡ sense_of m
alone_is t (alone u) e = ap (λ (n : ℕ). Ok (Token n)) (sym (eqb-true u t e))
alone_is t (item u) e = absurd (false≢true e)
alone_is t (value l) e = absurd (false≢true e)
alone_is t (order p j) e = absurd (false≢true e)
alone_is t equal e = absurd (false≢true e)
alone_is t (faulty n) e = absurd (false≢true e)

abbrev words_right : ℕ → Bool
words_right k = is_alone (262144 + k) (meaning_at k)

abbrev switches_right : ℕ → Bool
switches_right k = is_alone (131072 + k) (meaning_at (17 + k))

all_words : all_below 17 words_right ≡ true
unfolding all_below
all_words = refl

all_switches : all_below 8 switches_right ≡ true
unfolding all_below
all_switches = refl

pub word_is : (k : ℕ) → k < 17 → Ok (Token (262144 + k)) ≡ sense_of (meaning_at k)
word_is k h = alone_is (262144 + k) (meaning_at k) (below 17 words_right all_words k h)

pub switch_is : (k : ℕ) → 17 ≤ k → k < 25 → Ok (Token (131072 + (k - 17))) ≡ sense_of (meaning_at k)
switch_is k l h =
    let z : 17 + (k - 17) ≡ k = omega arith in
    alone_is (131072 + (k - 17)) (meaning_at (17 + (k - 17))) (below 8 switches_right all_switches (k - 17) (omega arith))
    ∙ ap (λ (n : ℕ). sense_of (meaning_at n)) z

past : (l : List Keyword) (k : ℕ) (d : Keyword) → length l ≤ k → get_or l k d ≡ d
past [] k d h = refl
past (a ∷ l) zero d h = absurd (omega arith)
past (a ∷ l) (suc k) d h = past l k d (omega arith)

pub other_is : (k : ℕ) → 28 ≤ k → Err 15 ≡ sense_of (meaning_at k)
other_is k h = ap (λ (w : Keyword). sense_of w.meaning) (sym (past vocabulary k (keyword [] (faulty 15)) h))

-- looking a word up is finding its number
found : (w : List ℕ) (other : Meaning) (ks : List Keyword)
    → (get_or ks (position w (map (λ (k : Keyword). k.bytes) ks)) (keyword [] other)).meaning ≡ lookup w other ks
unfolding position lookup
found w other [] = refl
found w other (k ∷ ks) = by (same w k.bytes) (found w other ks)
  where
    by : (t : Bool) → (get_or ks (position w (map (λ (k : Keyword). k.bytes) ks)) (keyword [] other)).meaning ≡ lookup w other ks
        → (get_or (k ∷ ks) (cond t 0 (suc (position w (map (λ (k : Keyword). k.bytes) ks)))) (keyword [] other)).meaning ≡ cond t k.meaning (lookup w other ks)
    by true h = refl
    by false h = h

pub looked_up : (w : List ℕ) (k : ℕ) → k ≡ position w (map (λ (k : Keyword). k.bytes) vocabulary)
    → sense_of (meaning_at k) ≡ sense_of (lookup w (faulty 15) vocabulary)
looked_up w k e = ap (λ (n : ℕ). sense_of (meaning_at n)) e ∙ ap sense_of (found w (faulty 15) vocabulary)
