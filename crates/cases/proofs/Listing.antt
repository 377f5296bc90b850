-- Words between spaces, and bytes up to a quote, one after the other.
use mathlib.Core.Path.{◌≡◌, refl, sym, ap, ap₂, ◌∙◌}
use mathlib.Core.Bool.{Bool, true, false, cond}
use mathlib.Core.List.{List, [], ◌∷◌}
use Prim.Native.Nat.{ℕ, suc, ◌+◌, ◌-◌, ◌≤◌, ◌<◌}
use native.Mathlib.Omega.{arith}
use native.Mathlib.Numerals.{add-one}
use borrow.Author.Tests.{eq-eqb, ne_eqb}
use lib.Dec.{eqb}
use lib.ListN.{length, take, drop, get_or, set, length-drop, drop_of_length-le}
use lib.Seq.{drop-cons, drop-drop}
use Rattle.cases.specs.Stores.{number_at, pushed, pushed_all, repeated_in}
use Rattle.cases.specs.Words.{first_of, before, digits_from}
use Rattle.cases.specs.Lists.{number_of, is_repeat, added, added_all, with_first, spaced}

-- what stands before a byte is the beginning
begins : (byte : ℕ) (text : List ℕ) → take (length (before byte text)) text ≡ before byte text
unfolding before
begins byte [] = refl
begins byte (b ∷ text) = by (eqb b byte) (begins byte text)
  where
    by : (t : Bool) → take (length (before byte text)) text ≡ before byte text
        → take (length (cond t [] (b ∷ before byte text))) (b ∷ text) ≡ cond t [] (b ∷ before byte text)
    by true e = refl
    by false e = ap (λ (l : List ℕ). b ∷ l) e

-- the first word, and the others behind its space
first-spaced : (b : ℕ) (text : List ℕ)
    → spaced (b ∷ text) ≡ before 0x20 (b ∷ text) ∷ spaced (drop (suc (length (before 0x20 (b ∷ text)))) (b ∷ text))
unfolding spaced before
first-spaced b [] = by (eqb b 0x20)
  where
    by : (t : Bool) → cond t ([] ∷ []) ((b ∷ []) ∷ []) ≡ cond t [] (b ∷ []) ∷ spaced (drop (length (cond t [] (b ∷ []))) [])
    by true = refl
    by false = refl
first-spaced b (d ∷ text) = by (eqb b 0x20) (first-spaced d text)
  where
    by : (t : Bool) → spaced (d ∷ text) ≡ before 0x20 (d ∷ text) ∷ spaced (drop (length (before 0x20 (d ∷ text))) text)
        → cond t ([] ∷ spaced (d ∷ text)) (with_first b (spaced (d ∷ text)))
        ≡ cond t [] (b ∷ before 0x20 (d ∷ text)) ∷ spaced (drop (length (cond t [] (b ∷ before 0x20 (d ∷ text)))) (d ∷ text))
    by true e = refl
    by false e = ap (with_first b) e

-- what a word adds
module _ (store : List ℕ) (part : ℕ) (word : List ℕ) where
  pub added_again : is_repeat word ≡ true → repeated_in store part (digits_from 10 0 word) ≡ added store part word
  added_again r = rw r

  pub added-mark : is_repeat word ≡ false → first_of word ≡ 0x5B → set store 16384 (number_at store part) ≡ added store part word
  added-mark r e = rw (r, eq-eqb (first_of word) 0x5B e)

  pub added_close : is_repeat word ≡ false → first_of word ≡ 0x5D → store ≡ added store part word
  added_close r e = rw (r, ne_eqb (first_of word) 0x5B (λ q. omega (arith, e, q)), eq-eqb (first_of word) 0x5D e)

  pub added_none : is_repeat word ≡ false → first_of word ≡ 0 → store ≡ added store part word
  added_none r e =
      rw (r, ne_eqb (first_of word) 0x5B (λ q. omega (arith, e, q)), ne_eqb (first_of word) 0x5D (λ q. omega (arith, e, q)), eq-eqb (first_of word) 0 e)

  pub added_one : is_repeat word ≡ false → (first_of word ≡ 0x5B → ⊥) → (first_of word ≡ 0x5D → ⊥) → (first_of word ≡ 0 → ⊥)
      → pushed store part (number_of part word) ≡ added store part word
  added_one r m d n = rw (r, ne_eqb (first_of word) 0x5B m, ne_eqb (first_of word) 0x5D d, ne_eqb (first_of word) 0 n)

module _ (part : ℕ) (text : List ℕ) where
  pub one_word : (store after : List ℕ) (at end : ℕ) (word : List ℕ) → at < length text → end ≡ at + length (before 0x20 (drop at text))
      → word ≡ take (end - at) (drop at text) → after ≡ added store part word
      → added_all after part (spaced (drop (end + 1) text)) ≡ added_all store part (spaced (drop at text))
  unfolding added_all
  one_word store after at end word h e w a = by (drop at text) refl
    where
      size : end - at ≡ length (before 0x20 (drop at text))
      size = omega (arith, e)

      is : word ≡ before 0x20 (drop at text)
      is = w ∙ ap (λ (k : ℕ). take k (drop at text)) size ∙ begins 0x20 (drop at text)

      by : (l : List ℕ) → drop at text ≡ l → added_all after part (spaced (drop (end + 1) text)) ≡ added_all store part (spaced (drop at text))
      by [] q = absurd (omega (arith, length-drop at text, ap length q))
      by (b ∷ l) q =
          let behind : drop (end + 1) text ≡ drop (suc (length (before 0x20 (drop at text)))) (drop at text) =
          ap (λ (k : ℕ). drop k text) (let p : end + 1 ≡ at + suc (length (before 0x20 (drop at text))) = omega (arith, e) in p)
          ∙ sym (drop-drop (suc (length (before 0x20 (drop at text)))) at text) in
          ap₂ (λ (s : List ℕ) (k : List ℕ). added_all s part (spaced k)) (a ∙ ap (added store part) is) behind
          ∙ sym (ap (added_all store part) (split q))
        where
          split : drop at text ≡ b ∷ l → spaced (drop at text) ≡ before 0x20 (drop at text) ∷ spaced (drop (suc (length (before 0x20 (drop at text)))) (drop at text))
          split q = rw q (first-spaced b l)

  pub no_word : (store : List ℕ) (at : ℕ) → length text ≤ at → added_all store part (spaced (drop at text)) ≡ store
  unfolding added_all spaced
  no_word store at h = rw (drop_of_length-le text {i = at} h)

  pub one_byte : (store after : List ℕ) (i : ℕ) → i < length text → (get_or text i 0 ≡ 0x22 → ⊥) → after ≡ pushed store part (get_or text i 0)
      → pushed_all after part (before 0x22 (drop (i + 1) text)) ≡ pushed_all store part (before 0x22 (drop i text))
  unfolding pushed_all before
  one_byte store after i h n a = rw (drop-cons text i 0 h, ne_eqb (get_or text i 0) 0x22 n, add-one i, a)

  pub quote_here : (store : List ℕ) (i : ℕ) → i < length text → get_or text i 0 ≡ 0x22 → pushed_all store part (before 0x22 (drop i text)) ≡ store
  unfolding pushed_all before
  quote_here store i h e = rw (drop-cons text i 0 h, eq-eqb (get_or text i 0) 0x22 e)

  pub no_quote : (store : List ℕ) (i : ℕ) → length text ≤ i → pushed_all store part (before 0x22 (drop i text)) ≡ store
  unfolding pushed_all before
  no_quote store i h = rw (drop_of_length-le text {i = i} h)
