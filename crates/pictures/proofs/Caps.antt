-- The code's step and end of a picture are the definition's, with counts that stop at 131,072.
use mathlib.Core.Path.{◌≡◌, refl, sym, ap, ◌∙◌}
use mathlib.Core.Bool.{Bool, true, false, cond}
use mathlib.Core.Option as maybe
use mathlib.Core.Option.{none, some}
use mathlib.Core.List.{List, [], ◌∷◌, ◌++◌}
use Prim.Native.Nat.{ℕ, zero, suc, ◌+◌, ◌-◌, ◌≤◌, ◌<◌, min}
use native.Mathlib.Omega.{arith}
use native.Mathlib.Numerals.{add-one}
use lib.Dec.{eqb}
use lib.ListN.{length, get_or, take, drop, length-drop, drop_of_length-le}
use lib.Seq.{take-suc, drop-cons, take_all, append_snoc}
use Rattle.description.specs.Machine.{bind, after, result}
use Rattle.description.specs.Grammar.{Shape, characters, number}
use Rattle.description.specs.Reader as R
use Rattle.description.specs.Reader.{is_some, pictures}
use Rattle.description.specs.Stages.{inked, reach, clauses, pictured, picture_from, picture_at, is_period}
use Rattle.description.specs.declared.Pictured.{Pictured}
use Rattle.description.specs.declared.Pictured.TheVariants as Pictured
use Rattle.description.proofs.Bytes.{apart, eqb_no, eqb_same, is_some_lem}
use Rattle.description.proofs.Stages.{reach_le, reached}
use Rattle.text_bytes.proofs.Laws.{part_from}
use Rattle.pictures.specs.Steps.{cap, made, on_tally, total_of, Small}
use Rattle.pictures.specs.Drawings.{drew, point_after, on_letters, on_pointed, on_point, on_number, on_first, on_drawn, SmallDrawn, number_end}
use Rattle.pictures.specs.Drawings.{number_kind, letters_end, end_with, drawn_end, cap_pending, cap_tally, cap_drawn, cap_pictured, draws, sketch}
use Rattle.pictures.specs.declared.Pending.TheVariants.{Settled, Last, Counting}
use Rattle.pictures.specs.declared.Tally.{Tally}
use Rattle.pictures.specs.declared.Drawn.{Drawn}
use Rattle.pictures.specs.declared.Drawn.TheVariants.{Nothing, Letters, Whole, Pointed}
use Rattle.pictures.specs.declared.Sketch.{Sketch}
use Rattle.pictures.proofs.Saturates.{shown, saturates}
use Rattle.std.specs.Prelude.{Result, Ok, Err, Option, Some, None}

abbrev pub cap_o : maybe.Option R.Drawn → Option Drawn
cap_o none = None
cap_o (some d) = Some (cap_drawn d)

abbrev cap_total : maybe.Option ℕ → Option ℕ
cap_total none = None
cap_total (some n) = Some (cap n)

total_caps : (n : ℕ) (p : R.Pending) → total_of (made (cap n) (cap_pending p)) ≡ cap_total (R.total n p)
total_caps n R.settled = refl
total_caps n R.last = let z : cap (cap n + 1) ≡ cap (suc n) = omega arith in rw z
total_caps n (R.counting v) = refl

drew_caps : (f : R.Tally → R.Drawn) (g : Tally → Drawn) → ((t : R.Tally) → cap_drawn (f t) ≡ g (cap_tally t)) → (o : maybe.Option R.Tally) → drew g (shown o) ≡ cap_o (bind o (λ u. some (f u)))
drew_caps f g h none = refl
drew_caps f g h (some t) = ap Some (sym (h t))

number_caps : (s : Bool) (t : R.Tally) (b : ℕ) → on_number s (cap_tally t) b ≡ cap_o (R.draw_number s t b)
number_caps s t b = rw (saturates 0x39 t.count t.pending b, total_caps t.count t.pending) (by (eqb b 0x56))
  where
    point : (o : maybe.Option ℕ) → point_after s (cap_total o) ≡ cap_o (bind o (λ m. some (R.pointed s m (R.tally 0 R.settled))))
    point none = refl
    point (some m) = refl

    by : (u : Bool) → cond u (point_after s (cap_total (R.total t.count t.pending))) (drew (Whole s) (shown (R.tallying 0x39 t.count t.pending b)))
        ≡ cap_o (cond u (bind (R.total t.count t.pending) (λ m. some (R.pointed s m (R.tally 0 R.settled))))
        (bind (R.tallying 0x39 t.count t.pending b) (λ u. some (R.whole s u))))
    by true = point (R.total t.count t.pending)
    by false = drew_caps (R.whole s) (Whole s) (λ u. refl) (R.tallying 0x39 t.count t.pending b)

first_caps : (b : ℕ) → on_first b ≡ cap_o (R.draw R.nothing b)
first_caps b = by (eqb b 0x58) (eqb b 0x41) (eqb b 0x53)
  where
    by : (x a s : Bool) → cond x (Some (Letters 0x58 (made 0 Last))) (cond a (Some (Letters 0x41 (made 0 Last))) (cond s (Some (Whole true (made 0 Settled))) (on_number false (made 0 Settled) b)))
        ≡ cap_o (cond x (some (R.letters R.letter_x (R.tally 0 R.last)))
        (cond a (some (R.letters R.letter_a (R.tally 0 R.last))) (cond s (some (R.whole true (R.tally 0 R.settled))) (R.draw_number false (R.tally 0 R.settled) b))))
    by true a s = refl
    by false true s = refl
    by false false true = refl
    by false false false = number_caps false (R.tally 0 R.settled) b

pub draw_caps : (d : R.Drawn) (b : ℕ) → on_drawn (cap_drawn d) b ≡ cap_o (R.draw d b)
draw_caps R.nothing b = first_caps b
draw_caps (R.letters c t) b = rw (saturates (R.letter_byte c) t.count t.pending b)
    (drew_caps (R.letters c) (Letters (R.letter_byte c)) (λ u. refl) (R.tallying (R.letter_byte c) t.count t.pending b))
draw_caps (R.whole s t) b = number_caps s t b
draw_caps (R.pointed s m t) b = rw (saturates 0x39 t.count t.pending b) (drew_caps (R.pointed s m) (Pointed s (cap m)) (λ u. refl) (R.tallying 0x39 t.count t.pending b))

-- Where a picture ends.
letters_caps : (c : R.Letter) (n k : ℕ) (p : Bool) → letters_end (R.letter_byte c) (cap n) k p ≡ cap_pictured (pictured k (R.positive n (characters (R.letter_kind c) n)) p)
letters_caps c zero k p = refl
letters_caps c (suc n) k p = rw (eqb_no (cap (suc n)) 0 (λ e. omega arith)) (by c p)
  where
    by : (c : R.Letter) (p : Bool) → cond p (Ok (Pictured.Ended (clauses (cond (eqb (R.letter_byte c) 0x58) 2 1) (cap (suc n)) 0 0 (k + 1)))) (Err k)
        ≡ cap_pictured (pictured k (some (characters (R.letter_kind c) (suc n))) p)
    by R.letter_x true = refl
    by R.letter_x false = refl
    by R.letter_a true = refl
    by R.letter_a false = refl

digits_caps : (s : Bool) (m n z k : ℕ) (p : Bool) → z ≡ m + n → number_end s (cap m) (cap n) k p ≡ cap_pictured (pictured k (R.positive z (number s m n)) p)
digits_caps s m n zero k p e = let i : cap (cap m + cap n) ≡ 0 = omega arith in rw i
digits_caps s m n (suc z) k p e =
    let i : cap (cap m + cap n) ≡ cap (m + n) = omega arith in
    rw (i, eqb_no (cap (m + n)) 0 (λ h. omega arith)) (by s p)
  where
    by : (s p : Bool) → cond p (Ok (Pictured.Ended (clauses (number_kind s) (cap (m + n)) (cap n) (cap (m + n)) (k + 1)))) (Ok (Pictured.Number s (cap m) (cap n) k)) ≡ cap_pictured (pictured k (some (number s m n)) p)
    by true true = refl
    by true false = refl
    by false true = refl
    by false false = refl

pub end_caps : (d : R.Drawn) (k : ℕ) (p : Bool) → drawn_end (cap_drawn d) k p ≡ cap_pictured (pictured k (R.drawn d) p)
end_caps R.nothing k p = refl
end_caps (R.letters c t) k p = rw (total_caps t.count t.pending) (by (R.total t.count t.pending))
  where
    by : (o : maybe.Option ℕ) → end_with (λ n. letters_end (R.letter_byte c) n k p) k (cap_total o) ≡ cap_pictured (pictured k (bind o (λ n. R.positive n (characters (R.letter_kind c) n))) p)
    by none = refl
    by (some n) = letters_caps c n k p
end_caps (R.whole s t) k p = rw (total_caps t.count t.pending) (by (R.total t.count t.pending))
  where
    by : (o : maybe.Option ℕ) → end_with (λ m. number_end s m 0 k p) k (cap_total o) ≡ cap_pictured (pictured k (bind o (λ m. R.positive m (number s m 0))) p)
    by none = refl
    by (some m) = digits_caps s m 0 m k p (omega arith)
end_caps (R.pointed s m t) k p = rw (total_caps t.count t.pending) (by (R.total t.count t.pending))
  where
    by : (o : maybe.Option ℕ) → end_with (λ n. number_end s (cap m) n k p) k (cap_total o) ≡ cap_pictured (pictured k (bind o (λ n. R.positive (m + n) (number s m n))) p)
    by none = refl
    by (some n) = digits_caps s m n (m + n) k p refl

-- Counts that stop are small.
small_pending : (n : ℕ) (p : R.Pending) → Small (made (cap n) (cap_pending p))
small_pending n R.settled = record { count = omega arith; pending = tt }
small_pending n R.last = record { count = omega arith; pending = tt }
small_pending n (R.counting v) = record { count = omega arith; pending = omega arith }

pub small_caps : (d : R.Drawn) → SmallDrawn (cap_drawn d)
small_caps R.nothing = tt
small_caps (R.letters c t) = small_pending t.count t.pending
small_caps (R.whole s t) = small_pending t.count t.pending
small_caps (R.pointed s m t) = (omega arith, small_pending t.count t.pending)

-- The state after some bytes, as the code has it.
on_is : {d : Drawn} (o : maybe.Option R.Drawn) → Some d ≡ cap_o o → d ≡ cap_drawn (maybe.get_or o R.nothing)
on_is none e = let z : ◌≡◌ {A = ℕ} 0 1 = cc in absurd (omega arith)
on_is (some x) e = cc

pub on_small : {d : Drawn} (o : maybe.Option R.Drawn) → Some d ≡ cap_o o → SmallDrawn d
on_small o e = rw (on_is o e) (small_caps (maybe.get_or o R.nothing))

on_some : {d : Drawn} (o : maybe.Option R.Drawn) → Some d ≡ cap_o o → is_some o ≡ true
on_some none e = let z : ◌≡◌ {A = ℕ} 0 1 = cc in absurd (omega arith)
on_some (some x) e = refl

stuck_none : (o : maybe.Option R.Drawn) → None ≡ cap_o o → is_some o ≡ false
stuck_none none e = refl
stuck_none (some x) e = let z : ◌≡◌ {A = ℕ} 0 1 = cc in absurd (omega arith)

after_snoc : (s : R.Drawn) (u : List ℕ) (b : ℕ) → after pictures s (u ++ b ∷ []) ≡ bind (after pictures s u) (λ t. R.draw t b)
unfolding after
after_snoc s [] b = by (R.draw s b)
  where
    by : (o : maybe.Option R.Drawn) → bind o (λ t. some t) ≡ o
    by none = refl
    by (some t) = refl
after_snoc s (a ∷ u) b = by (R.draw s a) (λ t. after_snoc t u b)
  where
    by : (o : maybe.Option R.Drawn) → ((t : R.Drawn) → after pictures t (u ++ b ∷ []) ≡ bind (after pictures t u) (λ t. R.draw t b)) →
        bind o (λ t. after pictures t (u ++ b ∷ [])) ≡ bind (bind o (λ t. after pictures t u)) (λ t. R.draw t b)
    by none f = refl
    by (some t) f = f t

module _ (bs : List ℕ) (k : ℕ) (l : k < length bs) {d : Drawn} {r : Option Drawn} (e : Some d ≡ cap_o (after pictures R.nothing (take k bs))) (f : r ≡ on_drawn d (get_or bs k 0)) where
  step_caps : r ≡ cap_o (after pictures R.nothing (take (k + 1) bs))
  step_caps = rw (add-one, take-suc bs k 0, after_snoc R.nothing (take k bs) (get_or bs k 0)) (f ∙ by (after pictures R.nothing (take k bs)) e)
    where
      by : (o : maybe.Option R.Drawn) → Some d ≡ cap_o o → on_drawn d (get_or bs k 0) ≡ cap_o (bind o (λ t. R.draw t (get_or bs k 0)))
      by none e = let z : ◌≡◌ {A = ℕ} 0 1 = cc in absurd (omega arith)
      by (some x) e = let i : d ≡ cap_drawn x = cc in rw i (draw_caps x (get_or bs k 0))

  abbrev so_far : Type 0
  so_far = reach draws [] bs ≡ k + reach draws (take k bs) (drop k bs)

  snoc_is : take k bs ++ get_or bs k 0 ∷ [] ≡ take (k + 1) bs
  snoc_is = rw (add-one, take-suc bs k 0)

  -- a byte that goes on
  pub goes_on : {x : Drawn} → so_far → r ≡ Some x → (reach draws [] bs ≡ (k + 1) + reach draws (take (k + 1) bs) (drop (k + 1) bs)) × (Some x ≡ cap_o (after pictures R.nothing (take (k + 1) bs)))
  unfolding reach
  goes_on h g =
      let i = sym g ∙ step_caps in
      (h ∙ rw (drop-cons bs k 0, snoc_is, on_some (after pictures R.nothing (take (k + 1) bs)) i, add-one) (omega arith), i)

  -- a byte that does not
  pub gets_stuck : so_far → r ≡ None → record { len = k; drawn = d } ≡ sketch bs
  unfolding reach
  gets_stuck h g =
      let i = sym g ∙ step_caps in
      let j : reach draws [] bs ≡ k = h ∙ rw (drop-cons bs k 0, snoc_is, stuck_none (after pictures R.nothing (take (k + 1) bs)) i) (omega arith) in
      rw (j, on_is (after pictures R.nothing (take k bs)) e)

pub all_read : (bs : List ℕ) (k : ℕ) {d : Drawn} → length bs ≤ k → Some d ≡ cap_o (after pictures R.nothing (take k bs)) → reach draws [] bs ≡ k + reach draws (take k bs) (drop k bs) →
    record { len = k; drawn = d } ≡ sketch bs
unfolding reach
all_read bs k l e h =
    let j : reach draws [] bs ≡ k = h ∙ rw (drop_of_length-le bs l) (omega arith) in
    rw (j, on_is (after pictures R.nothing (take k bs)) e)

-- A picture after a blank.
pub picture_none : (text : List ℕ) (n p : ℕ) → p ≡ inked text n → p ≡ n → Err n ≡ cap_pictured (picture_at text n)
picture_none text n p e h = let i : inked text n ≡ n = sym e ∙ h in rw (i, eqb_same n)

lives : (bs : List ℕ) → is_some (after pictures R.nothing (take (reach draws [] bs) bs)) ≡ true
unfolding after
lives bs = by (reach draws [] bs) (reached draws [] bs)
  where
    by : (m : ℕ) → (0 < m → draws (take m bs) ≡ true) → is_some (after pictures R.nothing (take m bs)) ≡ true
    by zero f = refl
    by (suc m) f = f (omega arith)

pub sketch_small : (bs : List ℕ) {s : Sketch} → s ≡ sketch bs → SmallDrawn s.drawn
sketch_small bs e = rw e (small_caps (maybe.get_or (after pictures R.nothing (take (reach draws [] bs) bs)) R.nothing))

pub sketch_le : (text : List ℕ) (p : ℕ) {s : Sketch} → p ≤ length text → s ≡ sketch (take (length text - p) (drop p text)) → p + s.len ≤ length text
sketch_le text p {s} l e =
    let i : s.len ≡ reach draws [] (drop p text) = ap (λ (z : Sketch). z.len) e ∙ ap (reach draws []) (part_from text p) in
    omega (arith, reach_le draws [] (drop p text), length-drop p text)

pub picture_some : (text : List ℕ) (n p : ℕ) (s : Sketch) (t : Bool) {r : Result Pictured ℕ} → p ≡ inked text n → ¬ (p ≡ n) → s ≡ sketch (take (length text - p) (drop p text)) →
    t ≡ is_period text (p + s.len) → r ≡ drawn_end s.drawn (p + s.len) t → r ≡ cap_pictured (picture_at text n)
unfolding result
picture_some text n p s t e h f g i = rw (← e, eqb_no p n h)
    (i ∙ rw (g, f, part_from text p) (by (after pictures R.nothing (take (reach draws [] (drop p text)) (drop p text))) (lives (drop p text))))
  where
    by : (o : maybe.Option R.Drawn) → is_some o ≡ true →
        drawn_end (cap_drawn (maybe.get_or o R.nothing)) (p + reach draws [] (drop p text)) (is_period text (p + reach draws [] (drop p text)))
        ≡ cap_pictured (pictured (p + reach draws [] (drop p text)) (bind o R.drawn) (is_period text (p + reach draws [] (drop p text))))
    by none j = apart j refl
    by (some x) j = end_caps x (p + reach draws [] (drop p text)) (is_period text (p + reach draws [] (drop p text)))
