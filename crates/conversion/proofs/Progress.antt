-- How far the converter of conditions has come: what is written, whether a NOT waits, and that the rest follows.
use mathlib.Core.Path.{◌≡◌, refl, sym, ◌∙◌}
use mathlib.Core.Bool.{Bool, true, false, cond, not}
use mathlib.Core.List.{List, [], ◌∷◌, ◌++◌, append-nil, append_assoc}
use Prim.Native.Nat.{ℕ, suc, ◌+◌, ◌*◌, ◌/◌, ◌≤◌, ◌<◌}
use native.Mathlib.Omega.{arith}
use native.Mathlib.Numerals.{add-one}
use lib.Dec.{eqb}
use lib.ListN.{length, get_or, drop, length-append, drop_of_length-le}
use lib.Seq.{drop-cons}
use borrow.Author.Tests.{eqb-true, eq-eqb, ne_eqb}
use Rattle.tables.specs.Tokens.{is_off}
use Rattle.grammar.specs.Converted.{on_token, not_if, only_on, converted_tokens}
use Rattle.conversion.specs.Steps.{on_word, leads, step}

-- one token of the definition
one_step : (w : Bool) (x : ℕ) (ts : List ℕ) → only_on w (x ∷ ts) ≡ step w x ++ only_on (eqb x 262146) ts
unfolding only_on
one_step w x ts = go (is_off x) (eqb x 262146) refl refl
  where
    go : (f n : Bool) → is_off x ≡ f → eqb x 262146 ≡ n →
        cond f (not_if (not w) ++ on_token x ∷ only_on false ts) (cond n (not_if w ++ only_on true ts) (not_if w ++ x ∷ only_on false ts))
        ≡ (not_if (cond f (not w) w) ++ cond n [] (cond f (on_token x) x ∷ [])) ++ only_on n ts
    go true true e g = absurd (let k : x / 65536 ≡ 3 = eqb-true (x / 65536) 3 e in let l : x ≡ 262146 = eqb-true x 262146 g in omega arith)
    go true false e g = sym (append_assoc (not_if (not w)) (on_token x ∷ []) (only_on false ts))
    go false true e g = rw append-nil
    go false false e g = sym (append_assoc (not_if w) (x ∷ []) (only_on false ts))

pub not_few : (b : Bool) → length (not_if b) ≤ 1
not_few true = omega arith
not_few false = omega arith

step_few : (w : Bool) (x : ℕ) → length (step w x) ≤ 2
step_few w x = omega (arith, length-append (not_if (leads w x)) (cond (eqb x 262146) [] (on_word x ∷ [])), not_few (leads w x), one (eqb x 262146))
  where
    one : (n : Bool) → length (cond n [] (on_word x ∷ [])) ≤ 1
    one true = omega arith
    one false = omega arith

-- what is written for NOT, and for any other token
module _ (w : Bool) (x : ℕ) where
  pub step_not : x ≡ 262146 → step w x ≡ not_if (leads w x)
  step_not e = rw (eq-eqb x 262146 e, append-nil)

  pub step-word : (x ≡ 262146 → ⊥) → step w x ≡ not_if (leads w x) ++ on_word x ∷ []
  step-word n = rw (ne_eqb x 262146 n)

  pub step-least : length (not_if (leads w x)) ≤ length (step w x)
  step-least = omega (arith, length-append (not_if (leads w x)) (cond (eqb x 262146) [] (on_word x ∷ [])))

-- `w`, so many tokens, is written of the tokens before `at`; the rest will be, after the NOT that waits
pub record Progress (tokens w : List ℕ) (at count : ℕ) (waits : Bool) : Type 0 where
  pub within : at ≤ length tokens
  pub size : count ≡ length w
  pub short : count ≤ 2 * at
  says : converted_tokens tokens ≡ w ++ only_on waits (drop at tokens)

pub start : (tokens : List ℕ) → Progress tokens [] 0 0 false
start tokens = record { within = omega arith; size = refl; short = omega arith; says = refl }

module _ {tokens w : List ℕ} {at count : ℕ} {waits : Bool} (p : Progress tokens w at count waits) where
  pub upto : count ≤ length (converted_tokens tokens)
  upto = rw p.says (omega (arith, length-append w (only_on waits (drop at tokens)), p.size))

  pub further : at < length tokens →
      let x = get_or tokens at 0 in Progress tokens (w ++ step waits x) (at + 1) (count + length (step waits x)) (eqb x 262146)
  further l =
      let x = get_or tokens at 0 in
      record {
        within = omega arith;
        size = omega (arith, p.size, length-append w (step waits x));
        short = omega (arith, p.short, step_few waits x);
        says =
            p.says
            ∙ rw (drop-cons tokens at 0 l, one_step waits x (drop (suc at) tokens), append_assoc w (step waits x), add-one);
      }

  pub ended : length tokens ≤ at → converted_tokens tokens ≡ w ++ not_if waits
  unfolding only_on
  ended l = p.says ∙ rw (drop_of_length-le tokens l)
