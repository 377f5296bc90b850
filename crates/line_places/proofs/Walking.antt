-- A walk over the bytes of a text, one step.
use mathlib.Core.Path.{◌≡◌, refl, sym, ap, ◌∙◌}
use mathlib.Core.Bool.{Bool, true, false, cond, not, ◌||◌}
use mathlib.Core.List.{List, [], ◌∷◌}
use Prim.Native.Nat.{ℕ, suc, ◌+◌, ◌≤◌, ◌<◌}
use native.Mathlib.Omega.{arith}
use native.Mathlib.Numerals.{add-one}
use borrow.Author.Tests.{ltb-false}
use lib.Dec.{eqb, ltb}
use lib.ListN.{length, drop, get_or}
use lib.Seq.{drop-cons, drop-length}
use Rattle.std.proofs.Common.{Option, Some, None, option_map}
use Rattle.std.proofs.lemmas.List.Sums.{prefix_len-le-length}
use Rattle.std.specs.List.{position, position_or_len, find}
use Rattle.std.specs.Option.{unwrap_or}
use Rattle.description.proofs.Bytes.{eqb_no}
use Rattle.line_places.specs.Places.{lines_from, start_from, end_from, line_rest, after_ink}

-- what is left begins with the next byte
pub next : (l : List ℕ) (i : ℕ) → i < length l → drop i l ≡ get_or l i 0 ∷ drop (i + 1) l
next l i h = rw (add-one i) (drop-cons l i 0 h)

pub none : (l : List ℕ) (i : ℕ) → i ≤ length l → length l ≤ i → drop i l ≡ []
none l i a b = let e : i ≡ length l = omega (arith, a, b) in rw e (drop-length l)

module _ (l : List ℕ) (i : ℕ) where
  pub line-next : (line : ℕ) → i < length l → get_or l i 0 ≡ 0x0A → lines_from (line + 1) (drop (i + 1) l) ≡ lines_from line (drop i l)
  unfolding lines_from
  line-next line h e = sym (rw (next l i h) (rw e refl))

  pub line_same : (line : ℕ) → i < length l → ¬ (get_or l i 0 ≡ 0x0A) → lines_from line (drop (i + 1) l) ≡ lines_from line (drop i l)
  unfolding lines_from
  line_same line h e =
      ap (λ (b : Bool). lines_from (cond b (line + 1) line) (drop (i + 1) l)) (sym (eqb_no (get_or l i 0) 0x0A e)) ∙ sym (ap (lines_from line) (next l i h))

  pub line-done : (line : ℕ) → i ≤ length l → length l ≤ i → lines_from line (drop i l) ≡ line
  unfolding lines_from
  line-done line a b = rw (none l i a b) refl

  pub start-next : (start : ℕ) → i < length l → get_or l i 0 ≡ 0x0A → start_from (i + 1) (i + 1) (drop (i + 1) l) ≡ start_from start i (drop i l)
  unfolding start_from
  start-next start h e = sym (rw (next l i h) (rw e refl))

  pub start-same : (start : ℕ) → i < length l → ¬ (get_or l i 0 ≡ 0x0A) → start_from start (i + 1) (drop (i + 1) l) ≡ start_from start i (drop i l)
  unfolding start_from
  start-same start h e =
      ap (λ (b : Bool). start_from (cond b (i + 1) start) (i + 1) (drop (i + 1) l)) (sym (eqb_no (get_or l i 0) 0x0A e))
      ∙ sym (ap (start_from start i) (next l i h))

  pub start-done : (start : ℕ) → i ≤ length l → length l ≤ i → start_from start i (drop i l) ≡ start
  unfolding start_from
  start-done start a b = rw (none l i a b) refl

-- the first line feed, or the end
rest_position : (place : ℕ) (rest : List ℕ) → end_from place rest ≡ place + position_or_len (λ b. eqb b 0x0A) rest
unfolding end_from
rest_position place [] = omega arith
rest_position place (byte ∷ rest) = by (eqb byte 0x0A) (rest_position (place + 1) rest)
  where
    by : (b : Bool) → end_from (place + 1) rest ≡ place + 1 + position_or_len (λ b. eqb b 0x0A) rest
        → cond b place (end_from (place + 1) rest) ≡ place + cond (not b) (1 + position_or_len (λ b. eqb b 0x0A) rest) 0
    by true e = omega arith
    by false e = omega (arith, e)

zero-plus : (n : ℕ) → n ≡ 0 + n
zero-plus n = omega arith

pub rest-found : (rest : List ℕ) → unwrap_or (position (λ b. eqb b 0x0A) rest) (length rest) ≡ line_rest rest
rest-found rest = by (ltb (position_or_len (λ b. eqb b 0x0A) rest) (length rest)) refl ∙ zero-plus _ ∙ sym (rest_position 0 rest)
  where
    by : (b : Bool) → ltb (position_or_len (λ b. eqb b 0x0A) rest) (length rest) ≡ b
        → unwrap_or (cond b (Some (position_or_len (λ b. eqb b 0x0A) rest)) None) (length rest) ≡ position_or_len (λ b. eqb b 0x0A) rest
    by true e = refl
    by false e =
        omega (arith, ltb-false (position_or_len (λ b. eqb b 0x0A) rest) (length rest) e, prefix_len-le-length (λ b. not (eqb b 0x0A)) rest)

-- the first byte without ink
ink_found_in : (rest : List ℕ) → unwrap_or (find (λ b. ltb b 0x21 || ltb 0x7E b) rest) 0x0A ≡ after_ink rest
unfolding after_ink
ink_found_in [] = refl
ink_found_in (byte ∷ rest) = by (ltb byte 0x21 || ltb 0x7E byte) (ink_found_in rest)
  where
    by : (b : Bool) → unwrap_or (find (λ b. ltb b 0x21 || ltb 0x7E b) rest) 0x0A ≡ after_ink rest
        → unwrap_or (cond b (Some byte) (find (λ b. ltb b 0x21 || ltb 0x7E b) rest)) 0x0A ≡ cond b byte (after_ink rest)
    by true e = refl
    by false e = e

pub ink-found : (rest : List ℕ) (r : Option ℕ) → option_map (λ b. b) r ≡ find (λ b. ltb b 0x21 || ltb 0x7E b) rest → unwrap_or r 0x0A ≡ after_ink rest
ink-found rest None e = ap (λ (r : Option ℕ). unwrap_or r 0x0A) e ∙ ink_found_in rest
ink-found rest (Some b) e = ap (λ (r : Option ℕ). unwrap_or r 0x0A) e ∙ ink_found_in rest
