-- What the token at a place decides of the tokens from that place on.
use mathlib.Core.Path.{◌≡◌, refl, sym, ◌∙◌}
use mathlib.Core.List.{List, [], ◌∷◌}
use Prim.Native.Nat.{ℕ, zero, suc, ◌+◌, ◌≤◌, ◌<◌}
use native.Mathlib.Omega.{arith}
use native.Mathlib.Numerals.{add-one}
use native.Mathlib.Decide.{dec_le}
use lib.ListN.{length, get_or, drop, drop_of_length-le, get_or-eq_default}
use lib.Seq.{drop-cons}
use Rattle.grammar.specs.Grammar.{Class, other, Class-discrete, class, Is}
use Rattle.grammar.specs.Parser.{Result, Parser, on}
use Rattle.simples.specs.Reads.{tok}
use Rattle.grammar.proofs.Sound.{Differ, apart}
use Rattle.grammar.proofs.Complete.{on_no}
use Rattle.grammar.proofs.Spelling.{is_other}

-- within a list it does not matter what stands past its end
pub get_d_within : (l : List ℕ) (i d d' : ℕ) → i < length l → get_or l i d ≡ get_or l i d'
get_d_within [] i d d' h = absurd (omega arith)
get_d_within (x ∷ l) zero d d' h = refl
get_d_within (x ∷ l) (suc i) d d' h = get_d_within l i d d' (omega arith)

module _ (tokens : List ℕ) (at : ℕ) {x : ℕ} (e : x ≡ tok tokens at) where
  -- past the end there is no token
  past : length tokens ≤ at → x ≡ 4294967295
  unfolding tok
  past l = e ∙ get_or-eq_default tokens 4294967295 l

  pub inside : x < 4294967295 → at < length tokens
  inside l = elim (dec_le (length tokens) at) [ yes h ↦ absurd (omega (arith, past h)) | no h ↦ omega arith ]

  pub stands : {k : Class} → Is k x → Differ k other → at < length tokens
  stands i d = elim (dec_le (length tokens) at) [ yes h ↦ absurd (apart i d (is_other x (omega (arith, past h)) (λ q. omega (arith, past h)))) | no h ↦ omega arith ]

  pub from_here : at < length tokens → drop at tokens ≡ x ∷ drop (at + 1) tokens
  unfolding tok
  from_here h = rw (e, add-one) (drop-cons tokens at 4294967295 h)

  -- a token of the class that is asked for
  pub take_on : {k : Class} → Is k x → Differ k other → (p : ℕ → Parser) (q : Parser) → on k p q (drop at tokens) ≡ p x (drop (at + 1) tokens)
  unfolding on
  take_on {k} i d p q = rw (from_here (stands i d)) (go (Class-discrete (class x) k))
    where
      go : (s : Dec (class x ≡ k)) →
          elim s as (λ _. Result) [ yes _ ↦ p x (drop (at + 1) tokens) | no _ ↦ q (x ∷ drop (at + 1) tokens) ] ≡ p x (drop (at + 1) tokens)
      go (yes s) = refl
      go (no n) = absurd (n i.is)

  -- a token of another class, or none
  pub pass_on : {k : Class} → ¬ Is k x → (p : ℕ → Parser) (q : Parser) → on k p q (drop at tokens) ≡ q (drop at tokens)
  unfolding on
  pass_on {k} n p q =
      elim (dec_le (length tokens) at) [
        | yes h ↦ rw (drop_of_length-le tokens h)
        | no h ↦ rw (from_here (omega arith)) (on_no k p q x (drop (at + 1) tokens) (λ s. n (record { is = s })))
      ]

  -- a token of class `j`, whatever class is asked for
  pub look : {j : Class} → Is j x → Differ j other → (k : Class) (p : ℕ → Parser) (q : Parser) →
      on k p q (drop at tokens)
      ≡ elim (Class-discrete j k) as (λ _. Result) [ yes _ ↦ p x (drop (at + 1) tokens) | no _ ↦ q (drop at tokens) ]
  look {j} i d k p q = go (Class-discrete j k)
    where
      go : (s : Dec (j ≡ k)) →
          on k p q (drop at tokens) ≡ elim s as (λ _. Result) [ yes _ ↦ p x (drop (at + 1) tokens) | no _ ↦ q (drop at tokens) ]
      go (yes s) = rw (← s) (take_on i d p q)
      go (no n) = pass_on (λ h. n (sym i.is ∙ h.is)) p q
