-- Splitting words that were joined by spaces gives these words.
use mathlib.Core.Path.{◌≡◌, refl, sym, ap, ◌∙◌}
use mathlib.Core.Bool.{Bool, true, false, cond, ◌&&◌, false≢true}
use mathlib.Core.List.{List, [], ◌∷◌, ◌++◌, map}
use Prim.Native.Nat.{ℕ, zero, suc, ◌+◌, ◌-◌, ◌≤◌}
use native.Mathlib.Omega.{arith}
use lib.ListN.{length, get_or, take}
use lib.Seq.{take-append_seam}
use lib.Dec.{eqb}
use borrow.Author.Tests.{eqb-true, eq-eqb}
use Rattle.tables.proofs.Tests.{both}
use Rattle.description.specs.Grammar.{Word, is_blank, same}
use Rattle.spelling.specs.Words.{runs, word_length, words_from}
use Rattle.spelling.specs.Printing.{spaced, line}

-- the same bytes are equal, and the other way
pub same_true : (v w : List ℕ) → same v w ≡ true → v ≡ w
unfolding same
same_true [] [] e = refl
same_true [] (c ∷ w) e = absurd (false≢true e)
same_true (b ∷ v) [] e = absurd (false≢true e)
same_true (b ∷ v) (c ∷ w) e =
    let p = both (eqb b c) (same v w) e in
    let q : b ≡ c = eqb-true b c p.0 in
    let r : v ≡ w = same_true v w p.1 in
    cc

pub same_refl : (w : List ℕ) → same w w ≡ true
unfolding same
same_refl [] = refl
same_refl (b ∷ w) = rw (eq-eqb b b refl) (same_refl w)

-- A word that stands by itself: what follows it, after a space, is no part of it.
pub record Stands (w : List ℕ) : Type 0 where
  pub some : 1 ≤ length w
  pub starts : is_blank (get_or w 0 0) ≡ false
  pub whole : (ws : List (List ℕ)) → word_length (w ++ spaced ws) ≡ length w

abbrev pub AllStand : List (List ℕ) → Type 0
AllStand [] = Unit {0}
AllStand (w ∷ ws) = Stands w × AllStand ws

-- the bytes that belong to the word before are passed
skipped : (xs rest : List ℕ) (at : ℕ) → words_from (length xs) at (xs ++ rest) ≡ words_from 0 (at + length xs) rest
unfolding words_from
skipped [] rest at = let e : at + 0 ≡ at = omega arith in rw e
skipped (x ∷ xs) rest at = let e : at + suc (length xs) ≡ suc at + length xs = omega arith in rw e (skipped xs rest (suc at))

first_word : (w : List ℕ) (ws : List (List ℕ)) (at : ℕ) → Stands w
    → words_from 0 at (w ++ spaced ws) ≡ record { place = at; text = w } ∷ words_from 0 (at + length w) (spaced ws)
unfolding words_from
first_word [] ws at s = absurd (omega (arith, s.some))
first_word (b ∷ w) ws at s =
    let e : at + suc (length w) ≡ suc at + length w = omega arith in
    let f : suc (length w) - 1 ≡ length w = omega arith in
    rw (s.starts, s.whole ws, take-append_seam (b ∷ w) (spaced ws), f, skipped w (spaced ws) (suc at), e)

pub cut-spaced : (ws : List (List ℕ)) (at : ℕ) → AllStand ws → map (λ (w : Word). w.text) (words_from 0 at (spaced ws)) ≡ ws
unfolding words_from spaced
cut-spaced [] at s = refl
cut-spaced (w ∷ ws) at s =
    rw (first_word w ws (suc at) s.0) (ap (λ (vs : List (List ℕ)). w ∷ vs) (cut-spaced ws (suc at + length w) s.1))

pub cut_line : (ws : List (List ℕ)) → AllStand ws → map (λ (w : Word). w.text) (words_from 0 0 (line ws)) ≡ ws
unfolding words_from line
cut_line [] s = refl
cut_line (w ∷ ws) s = rw (first_word w ws 0 s.0) (ap (λ (vs : List (List ℕ)). w ∷ vs) (cut-spaced ws (0 + length w) s.1))
