-- A table of texts, one to a line.
use mathlib.Core.Path.{◌≡◌, refl, sym, ap, ◌∙◌}
use mathlib.Core.Bool.{Bool, true, false, cond, not, ◌&&◌, false≢true}
use mathlib.Core.List.{List, [], ◌∷◌, ◌++◌}
use Prim.Native.Nat.{ℕ, zero, suc, ◌+◌, ◌-◌, ◌≤◌, ◌<◌}
use native.Mathlib.Omega.{arith}
use lib.Dec.{eqb}
use lib.ListN.{length, take, drop, get_or, length-drop}
use lib.Seq.{take_at, take_all, length-take-le, drop-length}
use Rattle.tables.proofs.Tests.{both}
use Rattle.description.proofs.Bytes.{eqb_no}
use Rattle.lines.specs.Put.{Puts}
use Rattle.line_places.specs.Places.{end_from, line_rest}
use Rattle.line_places.proofs.Walking.{next, none}
use Rattle.wordings.specs.Lines.{after_lines, line_of}

-- On the way to a line.
module _ (text : List ℕ) (i : ℕ) where
  pub line-behind : (left : ℕ) → 0 < left → i < length text → get_or text i 0 ≡ 0x0A → after_lines (left - 1) (drop (i + 1) text) ≡ after_lines left (drop i text)
  unfolding after_lines
  line-behind zero some h e = absurd (omega arith)
  line-behind (suc left) some h e = let z : suc left - 1 ≡ left = omega arith in rw z (sym (rw (next text i h) (rw e refl)))

  pub line_on : (left : ℕ) → 0 < left → i < length text → ¬ (get_or text i 0 ≡ 0x0A) → after_lines left (drop (i + 1) text) ≡ after_lines left (drop i text)
  unfolding after_lines
  line_on zero some h e = absurd (omega arith)
  line_on (suc left) some h e = sym (rw (next text i h) (rw (eqb_no (get_or text i 0) 0x0A e) refl))

  -- the line starts here
  pub line_here : (left : ℕ) → left ≡ 0 → after_lines left (drop i text) ≡ drop i text
  unfolding after_lines
  line_here zero e = refl
  line_here (suc left) e = absurd (omega arith)

  -- nothing is left
  pub no_line : (left : ℕ) → i ≤ length text → length text ≤ i → after_lines left (drop i text) ≡ drop (length text) text
  unfolding after_lines
  no_line zero l e = ap (λ (k : ℕ). drop k text) (let q : i ≡ length text = omega arith in q)
  no_line (suc left) l e = rw (none text i l e, drop-length text) refl

-- The line from there on.
inside : (place : ℕ) (text : List ℕ) → end_from place text ≤ place + length text
unfolding end_from
inside place [] = omega arith
inside place (byte ∷ rest) = by (eqb byte 0x0A) (inside (place + 1) rest)
  where
    by : (b : Bool) → end_from (place + 1) rest ≤ place + 1 + length rest → cond b place (end_from (place + 1) rest) ≤ place + suc (length rest)
    by true l = omega arith
    by false l = omega arith

pub line_size : (text : List ℕ) {size : ℕ} → size ≡ line_rest text → size ≡ length (take size text)
line_size text {size} e = sym (length-take-le size text (omega (arith, inside 0 text)))

pub line_from : (text : List ℕ) (start number : ℕ) {size : ℕ} → drop start text ≡ after_lines number text
    → size ≡ line_rest (take (length text - start) (drop start text)) → take size (take (length text - start) (drop start text)) ≡ line_of number text
line_from text start number h e =
    let all = take_all (length text - start) (drop start text) (omega (arith, length-drop start text)) in
    rw (e, all, h)

-- the texts of a table, each with a line feed after it
unfoldable pub written : List (List ℕ) → List ℕ
written [] = []
written (text ∷ texts) = text ++ (0x0A ∷ written texts)

-- none of them has one in it
unfoldable pub unbroken : List ℕ → Bool
unbroken [] = true
unbroken (byte ∷ text) = not (eqb byte 0x0A) && unbroken text

unfoldable pub all_unbroken : List (List ℕ) → Bool
all_unbroken [] = true
all_unbroken (text ∷ texts) = unbroken text && all_unbroken texts

-- so a line ends where its text does
module _ (rest : List ℕ) where
  ends_there : (place : ℕ) (text : List ℕ) → unbroken text ≡ true → end_from place (text ++ (0x0A ∷ rest)) ≡ place + length text
  unfolding end_from unbroken
  ends_there place [] e = omega arith
  ends_there place (byte ∷ text) e = by (eqb byte 0x0A) e (λ f. ends_there (place + 1) text f)
    where
      by : (b : Bool) → not b && unbroken text ≡ true → (unbroken text ≡ true → end_from (place + 1) (text ++ (0x0A ∷ rest)) ≡ place + 1 + length text)
          → cond b place (end_from (place + 1) (text ++ (0x0A ∷ rest))) ≡ place + suc (length text)
      by true f g = absurd (false≢true f)
      by false f g = omega (arith, g f)

  first-line : (text : List ℕ) → unbroken text ≡ true → line_of 0 (text ++ (0x0A ∷ rest)) ≡ text
  unfolding after_lines
  first-line text e = take_at text (0x0A ∷ rest) (end_from 0 (text ++ (0x0A ∷ rest))) (omega (arith, ends_there 0 text e))

  one_behind : (number : ℕ) (text : List ℕ) → unbroken text ≡ true → after_lines (suc number) (text ++ (0x0A ∷ rest)) ≡ after_lines number rest
  unfolding after_lines unbroken
  one_behind number [] e = refl
  one_behind number (byte ∷ text) e = by (eqb byte 0x0A) e (λ f. one_behind number text f)
    where
      by : (b : Bool) → not b && unbroken text ≡ true → (unbroken text ≡ true → after_lines (suc number) (text ++ (0x0A ∷ rest)) ≡ after_lines number rest)
          → cond b (after_lines number (text ++ (0x0A ∷ rest))) (after_lines (suc number) (text ++ (0x0A ∷ rest))) ≡ after_lines number rest
      by true f g = absurd (false≢true f)
      by false f g = g f

-- line `number` is entry `number`
entry : (texts : List (List ℕ)) (number : ℕ) → all_unbroken texts ≡ true → line_of number (written texts) ≡ get_or texts number []
unfolding written all_unbroken after_lines end_from
entry [] zero e = refl
entry [] (suc number) e = refl
entry (text ∷ texts) zero e = first-line (written texts) text (both (unbroken text) (all_unbroken texts) e).0
entry (text ∷ texts) (suc number) e =
    let f = both (unbroken text) (all_unbroken texts) e in
    ap (λ (l : List ℕ). take (end_from 0 l) l) (one_behind (written texts) number text f.0) ∙ entry texts number f.1

pub entry_put : (texts : List (List ℕ)) (number : ℕ) {out : List ℕ} {at end : ℕ} {text after : List ℕ} → all_unbroken texts ≡ true → text ≡ written texts
    → Puts out at (line_of number text) end after → Puts out at (get_or texts number []) end after
entry_put texts number e f P = rw (f, entry texts number e) at P
