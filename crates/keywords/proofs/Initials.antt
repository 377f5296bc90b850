-- The first byte of a word tells which keywords it may be.
use mathlib.Core.Path.{◌≡◌, refl, sym, ◌∙◌}
use mathlib.Core.Bool.{Bool, true, false, cond, ◌&&◌, ◌||◌, or-false, or_assoc}
use mathlib.Core.List.{List, [], ◌∷◌, ◌++◌}
use mathlib.Core.Logic.{⊎_elim}
use Prim.Native.Nat.{ℕ, ◌<◌}
use native.Mathlib.Omega.{arith}
use borrow.Author.Tests.{eqb-true}
use lib.Dec.{eqb}
use lib.ListN.{length, get_or}
use Rattle.description.specs.Grammar.{bytes, same, within, keywords}
use Rattle.description.proofs.Bytes.{apart, and_both, or_either, eqb_no}
use Rattle.keywords.specs.Initials.{beginning}

-- one word, and the words of two lists
pub one_word : (w v : List ℕ) (r : Bool) → r ≡ same w v → r ≡ within w (v ∷ [])
unfolding within
one_word w v r e = e ∙ sym (or-false (same w v))

within_both : (w : List ℕ) (us vs : List (List ℕ)) → within w us || within w vs ≡ within w (us ++ vs)
unfolding within
within_both w [] vs = refl
within_both w (u ∷ us) vs = rw (or_assoc, within_both w us vs)

pub both_lists : (w : List ℕ) (us vs : List (List ℕ)) (r s : Bool) → r ≡ within w us → s ≡ within w vs → r || s ≡ within w (us ++ vs)
both_lists w us vs r s e f = rw (e, f) (within_both w us vs)

pub no_letters : (w : List ℕ) → length w ≡ 0 → false ≡ within w keywords
unfolding within same
no_letters [] h = refl
no_letters (a ∷ v) h = absurd (omega arith)

-- the words that begin as it does
begins : (a : ℕ) (u : List ℕ) (vs : List (List ℕ)) → within (a ∷ u) (beginning a vs) ≡ within (a ∷ u) vs
unfolding within same
begins a u [] = refl
begins a u (v ∷ vs) = by v (eqb a (get_or v 0 0)) refl (begins a u vs)
  where
    by : (v : List ℕ) (t : Bool) → eqb a (get_or v 0 0) ≡ t → within (a ∷ u) (beginning a vs) ≡ within (a ∷ u) vs
        → within (a ∷ u) (cond t (v ∷ beginning a vs) (beginning a vs)) ≡ same (a ∷ u) v || within (a ∷ u) vs
    by v true q e = rw e
    by [] false q e = e
    by (b ∷ v) false q e = rw (q, e)

pub starts : (w : List ℕ) (b : ℕ) → 0 < length w → get_or w 0 0 ≡ b → within w (beginning b keywords) ≡ within w keywords
starts [] b h e = absurd (omega arith)
starts (a ∷ u) b h e = rw (← e) (begins a u keywords)

-- a byte that is none of these, and lists all of whose words begin with one of them
abbrev pub Other : ℕ → List ℕ → Type 0
Other a [] = Unit {0}
Other a (b ∷ bs) = Other a bs × ¬ (a ≡ b)

abbrev found : ℕ → List ℕ → Bool
found b [] = false
found b (d ∷ bs) = eqb b d || found b bs

abbrev covered : List ℕ → List (List ℕ) → Bool
covered bs [] = true
covered bs (v ∷ vs) = found (get_or v 0 0) bs && covered bs vs

other_byte : (a b : ℕ) (bs : List ℕ) → Other a bs → found b bs ≡ true → eqb a b ≡ false
other_byte a b [] h e = apart e refl
other_byte a b (d ∷ bs) h e =
    ⊎_elim (λ q. eqb_no a b (λ p. h.1 (p ∙ eqb-true b d q))) (λ q. other_byte a b bs h.0 q) (or_either (eqb b d) (found b bs) e)

not_there : (bs w : List ℕ) (vs : List (List ℕ)) → 0 < length w → Other (get_or w 0 0) bs → covered bs vs ≡ true → false ≡ within w vs
unfolding within same
not_there bs [] vs l h e = absurd (omega arith)
not_there bs (a ∷ u) [] l h e = refl
not_there bs (a ∷ u) ([] ∷ vs) l h e = not_there bs (a ∷ u) vs l h (and_both (found 0 bs) (covered bs vs) e).1
not_there bs (a ∷ u) ((b ∷ v) ∷ vs) l h e =
    let t = and_both (found b bs) (covered bs vs) e in
    rw (other_byte a b bs h t.0) (not_there bs (a ∷ u) vs l h t.1)

abbrev pub firsts : List ℕ
firsts = bytes "ZVUTSPONLIGFECA"

pub starts_other : (w : List ℕ) → 0 < length w → Other (get_or w 0 0) firsts → false ≡ within w keywords
starts_other w l h = not_there firsts w keywords l h refl
