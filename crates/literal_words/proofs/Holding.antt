-- Nonnumeric literals as code reads them: byte by byte.
use mathlib.Core.Path.{◌≡◌, refl, sym, ap, ap₂, ◌∙◌, subst}
use mathlib.Core.Bool.{Bool, true, false, cond, not, ◌&&◌, ◌||◌, false≢true, true≢false}
use mathlib.Core.List.{List, [], ◌∷◌, ◌++◌}
use Prim.Native.Nat.{ℕ, zero, suc, ◌+◌, ◌-◌, ◌≤◌, ◌<◌}
use native.Mathlib.Omega.{arith}
use lib.ListN.{length, get_or, take, drop, length-append, drop_of_length-le}
use lib.Seq.{take_at, take_all, drop-cons}
use native.Mathlib.Numerals.{add-one}
use lib.Dec.{eqb, leb}
use borrow.Author.Tests.{eqb-true, eq-eqb, ne_eqb, not-true, not-false}
use Rattle.content.specs.Content.{first_byte, but_first, but_last}
use Rattle.content.proofs.WrongByte.{valid_other}
use Rattle.tables.proofs.Tests.{both}
use Rattle.description.specs.Grammar.{same}
use Rattle.spelling.specs.Words.{is_quote}
use Rattle.spelling.specs.Literals.{Literal, doubled, quoted, undoubled, text_of, is_text, fits}
use Rattle.literal_words.specs.Found.{closes, inner, held_bytes, within_limits, text_found}
use Rattle.spelling.proofs.Cutting.{same_true, same_refl}
use Rattle.std.specs.Prelude.{None, Some}

and_none : (a b c : Bool) → a && false && b ≡ a && false && c
and_none true b c = refl
and_none false b c = refl

abbrev opened : Bool → List ℕ → List ℕ
opened true bytes = 0x22 ∷ bytes
opened false bytes = bytes

-- bytes that close are the bytes that they hold, doubled, and a quote
doubled_quote : (v : List ℕ) → doubled (0x22 ∷ v) ≡ 0x22 ∷ 0x22 ∷ doubled v
unfolding doubled
doubled_quote v = refl

doubled_other : (b : ℕ) (v : List ℕ) → is_quote b ≡ false → doubled (b ∷ v) ≡ b ∷ doubled v
unfolding doubled
doubled_other b v e = rw e

closed : (pending : Bool) (bytes : List ℕ) → closes pending bytes ≡ true → opened pending bytes ≡ doubled (inner pending bytes) ++ 0x22 ∷ []
unfolding closes inner doubled
closed false [] e = absurd (false≢true e)
closed true [] e = refl
closed true (b ∷ bytes) e =
    let p = both (is_quote b) (closes false bytes) e in
    let q : b ≡ 0x22 = eqb-true b 0x22 p.0 in
    rw q (ap (λ (v : List ℕ). 0x22 ∷ 0x22 ∷ v) (closed false bytes p.1))
closed false (b ∷ bytes) e = by (is_quote b) refl e (closed true bytes) (closed false bytes)
  where
    by : (t : Bool) → is_quote b ≡ t → closes t bytes ≡ true
        → (closes true bytes ≡ true → 0x22 ∷ bytes ≡ doubled (inner true bytes) ++ 0x22 ∷ [])
        → (closes false bytes ≡ true → bytes ≡ doubled (inner false bytes) ++ 0x22 ∷ [])
        → b ∷ bytes ≡ doubled (cond t (inner true bytes) (b ∷ inner false bytes)) ++ 0x22 ∷ []
    by true q e one two = let r : b ≡ 0x22 = eqb-true b 0x22 q in rw r (one e)
    by false q e one two = rw (doubled_other b (inner false bytes) q) (ap (λ (v : List ℕ). b ∷ v) (two e))

-- and the other way
holds : (v : List ℕ) → (closes false (doubled v ++ 0x22 ∷ []) ≡ true) × (inner false (doubled v ++ 0x22 ∷ []) ≡ v)
unfolding closes inner doubled
holds [] = (refl, refl)
holds (b ∷ v) = by (is_quote b) refl (holds v)
  where
    by : (t : Bool) → is_quote b ≡ t → (closes false (doubled v ++ 0x22 ∷ []) ≡ true) × (inner false (doubled v ++ 0x22 ∷ []) ≡ v)
        → (closes false (cond t (b ∷ b ∷ doubled v) (b ∷ doubled v) ++ 0x22 ∷ []) ≡ true)
        × (inner false (cond t (b ∷ b ∷ doubled v) (b ∷ doubled v) ++ 0x22 ∷ []) ≡ b ∷ v)
    by true q h =
        let r : b ≡ 0x22 = eqb-true b 0x22 q in
        let x : List ℕ = doubled v ++ 0x22 ∷ [] in
        (ap (λ (t : Bool). closes t (b ∷ x)) q ∙ ap (λ (t : Bool). t && closes false x) q ∙ h.0, rw q (ap₂ (λ (c : ℕ) (w : List ℕ). c ∷ w) (sym r) h.1))
    by false q h = (ap (λ (t : Bool). closes t (doubled v ++ 0x22 ∷ [])) q ∙ h.0, rw q (ap (λ (w : List ℕ). b ∷ w) h.1))

undoubled_again : (v : List ℕ) → undoubled false (doubled v) ≡ v
unfolding undoubled doubled
undoubled_again [] = refl
undoubled_again (b ∷ v) = by (is_quote b) refl (undoubled_again v)
  where
    by : (t : Bool) → is_quote b ≡ t → undoubled false (doubled v) ≡ v → undoubled false (cond t (b ∷ b ∷ doubled v) (b ∷ doubled v)) ≡ b ∷ v
    by true q h = rw q (ap (λ (w : List ℕ). b ∷ w) h)
    by false q h = rw q (ap (λ (w : List ℕ). b ∷ w) h)

-- whatever is written in quotes is read as itself
pub text_again : (v : List ℕ) → (text_of (quoted v)).bytes ≡ v
text_again v =
    let long : length (doubled v) ≡ length (doubled v ++ 0x22 ∷ []) - 1 = omega (arith, length-append (doubled v) (0x22 ∷ [])) in
    rw (take_at (doubled v) (0x22 ∷ []) (length (doubled v ++ 0x22 ∷ []) - 1) long) (undoubled_again v)

-- a word is a nonnumeric literal by what its bytes after the first are
same-closes : (bytes v : List ℕ) → v ≡ undoubled false (but_last bytes) → same bytes (doubled v ++ 0x22 ∷ []) ≡ closes false bytes
same-closes bytes v e = by (closes false bytes) refl (same bytes (doubled v ++ 0x22 ∷ [])) refl
  where
    by : (t : Bool) → closes false bytes ≡ t → (u : Bool) → same bytes (doubled v ++ 0x22 ∷ []) ≡ u → same bytes (doubled v ++ 0x22 ∷ []) ≡ closes false bytes
    by true p true q = q ∙ sym p
    by false p false q = q ∙ sym p
    by false p true q =
        let r : bytes ≡ doubled v ++ 0x22 ∷ [] = same_true bytes (doubled v ++ 0x22 ∷ []) q in
        let bad : false ≡ true = sym p ∙ ap (closes false) r ∙ (holds v).0 in
        absurd (false≢true bad)
    by true p false q =
        let x : List ℕ = inner false bytes in
        let r : bytes ≡ doubled x ++ 0x22 ∷ [] = closed false bytes p in
        let w : v ≡ x = e ∙ ap (λ (s : List ℕ). undoubled false (but_last s)) r ∙ text_again x in
        let bad : true ≡ false =
        sym (same_refl bytes) ∙ ap (same bytes) (r ∙ ap (λ (s : List ℕ). doubled s ++ 0x22 ∷ []) (sym w)) ∙ q in
        absurd (true≢false bad)

text-bytes : (bytes : List ℕ) → closes false bytes ≡ true → undoubled false (but_last bytes) ≡ inner false bytes
text-bytes bytes p =
    ap (λ (s : List ℕ). undoubled false (but_last s)) (closed false bytes p) ∙ text_again (inner false bytes)

abbrev pub text_by : List ℕ → Literal
text_by word = record { kind = 2; scale = 0; bytes = inner false (but_first word) }

pub text_by_lem : (word : List ℕ) → is_text word ≡ is_quote (first_byte word) && closes false (but_first word) && fits (text_by word)
unfolding is_text same
text_by_lem [] = refl
text_by_lem (b ∷ bytes) = by (closes false bytes) refl
  where
    s : same bytes (doubled (undoubled false (but_last bytes)) ++ 0x22 ∷ []) ≡ closes false bytes
    s = same-closes bytes (undoubled false (but_last bytes)) refl

    by : (t : Bool) → closes false bytes ≡ t
        → is_quote b && same bytes (doubled (undoubled false (but_last bytes)) ++ 0x22 ∷ []) && fits (text_of (b ∷ bytes))
        ≡ is_quote b && closes false bytes && fits (text_by (b ∷ bytes))
    by true p =
        ap₂ (λ (t : Bool) (v : List ℕ). is_quote b && t && fits (record { kind = 2; scale = 0; bytes = v })) s (text-bytes bytes p)
    by false p =
        ap (λ (t : Bool). is_quote b && t && fits (text_of (b ∷ bytes))) (s ∙ p)
        ∙ and_none (is_quote b) (fits (text_of (b ∷ bytes))) (fits (text_by (b ∷ bytes)))
        ∙ ap (λ (t : Bool). is_quote b && t && fits (text_by (b ∷ bytes))) (sym p)

-- one byte
pub broken_off : (pending : Bool) (b : ℕ) (bytes : List ℕ) → pending && not (is_quote b) ≡ true → closes pending (b ∷ bytes) ≡ false
unfolding closes
broken_off true b bytes e = rw (not-true (is_quote b) e)
broken_off false b bytes e = absurd (false≢true e)

pub goes_on : (pending : Bool) (b : ℕ) (bytes : List ℕ) → pending && not (is_quote b) ≡ false
    → (closes pending (b ∷ bytes) ≡ closes (not pending && is_quote b) bytes)
    × (length (inner pending (b ∷ bytes)) ≡ cond (not pending && is_quote b) 0 1 + length (inner (not pending && is_quote b) bytes))
unfolding closes inner
goes_on true b bytes e = (rw (not-false (is_quote b) e), omega arith)
goes_on false b bytes e = (refl, by (is_quote b))
  where
    by : (t : Bool) → length (cond t (inner true bytes) (b ∷ inner false bytes)) ≡ cond t 0 1 + length (inner t bytes)
    by true = omega arith
    by false = omega arith

module _ (bytes : List ℕ) (pending : Bool) (i : ℕ) where
  pub text-ended : length bytes ≤ i → (closes pending (drop i bytes) ≡ pending) × (length (inner pending (drop i bytes)) ≡ 0)
  unfolding closes inner
  text-ended h = rw (drop_of_length-le bytes h) (by pending)
    where
      by : (p : Bool) → (closes p [] ≡ p) × (length (inner p []) ≡ 0)
      by true = (refl, refl)
      by false = (refl, refl)

  module _ (h : i < length bytes) where
    pub text_broken : pending && not (is_quote (get_or bytes i 0)) ≡ true → closes pending (drop i bytes) ≡ false
    text_broken e = rw (drop-cons bytes i 0 h) (broken_off pending (get_or bytes i 0) (drop (suc i) bytes) e)

    pub text_on : pending && not (is_quote (get_or bytes i 0)) ≡ false
        → (closes pending (drop i bytes) ≡ closes (not pending && is_quote (get_or bytes i 0)) (drop (i + 1) bytes))
        × (length (inner pending (drop i bytes))
        ≡ cond (not pending && is_quote (get_or bytes i 0)) 0 1 + length (inner (not pending && is_quote (get_or bytes i 0)) (drop (i + 1) bytes)))
    text_on e = rw (add-one, drop-cons bytes i 0 h) (goes_on pending (get_or bytes i 0) (drop (suc i) bytes) e)

-- the limits
limits : (v : List ℕ) → fits (record { kind = 2; scale = 0; bytes = v }) ≡ leb 1 (length v) && leb (length v) 256
limits v =
    rw (valid_other 2 0 v (λ e. omega arith) (λ e. omega arith) (λ e. omega arith) (λ e. omega arith) (λ e. omega arith) refl)
    (by (leb 1 (length v)) (leb (length v) 256))
  where
    by : (t u : Bool) → ((t && u && true && true) || false) && true ≡ t && u
    by true true = refl
    by true false = refl
    by false u = refl

-- a word in quotes, and one that does not begin with a quote
pub in_quotes : (b : ℕ) (bytes : List ℕ) → is_quote b ≡ true → within_limits (held_bytes bytes) ≡ text_found (b ∷ bytes)
in_quotes b bytes e = rw (text_by_lem (b ∷ bytes), e) (by (closes false bytes) refl)
  where
    by : (t : Bool) → closes false bytes ≡ t
        → within_limits (cond t (Some (length (inner false bytes))) None)
        ≡ cond (t && fits (text_by (b ∷ bytes))) (Some (length (undoubled false (but_last bytes)))) None
    by true p = rw (limits (inner false bytes), text-bytes bytes p)
    by false p = refl

pub no_quotes : (b : ℕ) (bytes : List ℕ) → is_quote b ≡ false → None ≡ text_found (b ∷ bytes)
no_quotes b bytes e = rw (text_by_lem (b ∷ bytes), e)

pub held_not : (bytes : List ℕ) → closes false bytes ≡ false → None ≡ within_limits (held_bytes bytes)
held_not bytes e = rw e

pub held_is : (bytes : List ℕ) (pending : Bool) (n : ℕ) (t : Bool) → closes false bytes ≡ pending → length (inner false bytes) ≡ n
    → pending && (leb 1 n && leb n 256) ≡ t → cond t (Some n) None ≡ within_limits (held_bytes bytes)
held_is bytes true n t e h g = rw (e, h, g)
held_is bytes false n t e h g = rw (← g, e)

pub one_most : (t : Bool) (n : ℕ) → n ≡ cond t 0 1 → n ≤ 1
one_most true n e = omega arith
one_most false n e = omega arith

-- the part that is lent
rest_whole : (b : ℕ) (bytes : List ℕ) → take (length (b ∷ bytes) - 1) (drop 1 (b ∷ bytes)) ≡ bytes
rest_whole b bytes = take_all (length (b ∷ bytes) - 1) bytes (omega arith)

pub text_empty : (word : List ℕ) → length word ≡ 0 → None ≡ text_found word
text_empty [] e = rw (text_by_lem [])
text_empty (b ∷ bytes) e = absurd (omega arith)

pub text_none : (word : List ℕ) → (length word ≡ 0 → ⊥) → (get_or word 0 0 ≡ 0x22 → ⊥) → None ≡ text_found word
text_none [] some e = absurd (some refl)
text_none (b ∷ bytes) some e = no_quotes b bytes (ne_eqb b 0x22 e)

pub text_held : (word : List ℕ) → (length word ≡ 0 → ⊥) → get_or word 0 0 ≡ 0x22
    → within_limits (held_bytes (take (length word - 1) (drop 1 word))) ≡ text_found word
text_held [] some e = absurd (some refl)
text_held (b ∷ bytes) some e =
    ap (λ (v : List ℕ). within_limits (held_bytes v)) (rest_whole b bytes) ∙ in_quotes b bytes (eq-eqb b 0x22 e)
