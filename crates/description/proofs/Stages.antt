-- Reading word by word is the reading of the machine.
use mathlib.Core.Path.{◌≡◌, refl, sym, ap, subst, ◌∙◌}
use mathlib.Core.Logic.{◌⊎◌, inl, inr}
use mathlib.Core.Bool.{Bool, true, false, cond, ◌&&◌, ◌||◌}
use mathlib.Core.Option
use mathlib.Core.Option.{Option, none, some}
use mathlib.Core.List.{List, [], ◌∷◌, ◌++◌, append-nil}
use Prim.Native.Nat.{ℕ, zero, suc, ◌+◌, ◌*◌, ◌-◌, ◌≤◌, ◌<◌}
use native.Mathlib.Omega.{arith}
use lib.Dec.{eqb, leb}
use lib.ListN.{length, get_or, take, drop, length-take}
use lib.Seq.{append_snoc, drop-drop, drop-nil}
use Rattle.description.specs.Machine.{Answer, accepted, refused, run, stepped, closed, bind}
use Rattle.description.specs.Words.{Mid, mid, pause, parting, machine}
use Rattle.description.specs.Words as W
use Rattle.description.specs.Grammar.{is_blank}
use Rattle.description.specs.Reader.{Parts, State, descriptions, next, begins, ends, parts_of, complete, Reading, read, faulty, reading}
use Rattle.description.specs.Stages.{blanks, inked, reach, onward, parted, joined}
use Rattle.description.proofs.Bytes.{apart}
use Rattle.description.proofs.Fit.{not_fresh}

abbrev pub from : ℕ → State → List ℕ → Reading
from n q bs = reading (run (machine descriptions) n (mid q n []) bs)

-- The word goes on as far as it may.
run-reach : (q : State) (p n : ℕ) (u bs : List ℕ) →
    run (machine descriptions) n (mid q p u) bs
    ≡ run (machine descriptions) (n + reach (begins q) u bs) (mid q p (u ++ take (reach (begins q) u bs) bs)) (drop (reach (begins q) u bs) bs)
unfolding reach run
run-reach q p n u [] = let z : n + 0 ≡ n = omega arith in rw (z, append-nil u)
run-reach q p n u (b ∷ bs) = by (begins q (u ++ b ∷ [])) refl (run-reach q p (suc n) (u ++ b ∷ []) bs)
  where
    by : (t : Bool) → begins q (u ++ b ∷ []) ≡ t →
        run (machine descriptions) (suc n) (mid q p (u ++ b ∷ [])) bs
        ≡ run (machine descriptions) (suc n + reach (begins q) (u ++ b ∷ []) bs)
        (mid q p ((u ++ b ∷ []) ++ take (reach (begins q) (u ++ b ∷ []) bs) bs))
        (drop (reach (begins q) (u ++ b ∷ []) bs) bs) →
        run (machine descriptions) n (mid q p u) (b ∷ bs)
        ≡ run (machine descriptions) (n + cond t (suc (reach (begins q) (u ++ b ∷ []) bs)) 0)
        (mid q p (u ++ take (cond t (suc (reach (begins q) (u ++ b ∷ []) bs)) 0) (b ∷ bs)))
        (drop (cond t (suc (reach (begins q) (u ++ b ∷ []) bs)) 0) (b ∷ bs))
    by true e f =
        let z : suc n + reach (begins q) (u ++ b ∷ []) bs ≡ n + suc (reach (begins q) (u ++ b ∷ []) bs) = omega arith in
        rw e (f ∙ rw (z, append_snoc u b (take (reach (begins q) (u ++ b ∷ []) bs) bs)))
    by false e f = let z : n + 0 ≡ n = omega arith in rw (z, append-nil u)

-- Where it stops, the text ends, or the next byte may not follow.
pub data Stop (test : List ℕ → Bool) (w : List ℕ) : List ℕ → Type 0 where
  over : Stop test w []
  at : {b : ℕ} {rest : List ℕ} → test (w ++ b ∷ []) ≡ false → Stop test w (b ∷ rest)

pub stops : (test : List ℕ → Bool) (u bs : List ℕ) → Stop test (u ++ take (reach test u bs) bs) (drop (reach test u bs) bs)
unfolding reach
stops test u [] = Stop.over
stops test u (b ∷ bs) = by (test (u ++ b ∷ [])) refl (stops test (u ++ b ∷ []) bs)
  where
    by : (t : Bool) → test (u ++ b ∷ []) ≡ t →
        Stop test ((u ++ b ∷ []) ++ take (reach test (u ++ b ∷ []) bs) bs) (drop (reach test (u ++ b ∷ []) bs) bs) →
        Stop test (u ++ take (cond t (suc (reach test (u ++ b ∷ []) bs)) 0) (b ∷ bs)) (drop (cond t (suc (reach test (u ++ b ∷ []) bs)) 0) (b ∷ bs))
    by true e s = rw append_snoc at s
    by false e s = let z : test ((u ++ []) ++ b ∷ []) ≡ false = rw append-nil e in Stop.at z

-- No more bytes than there are.
pub reach_le : (test : List ℕ → Bool) (u bs : List ℕ) → reach test u bs ≤ length bs
unfolding reach
reach_le test u [] = omega arith
reach_le test u (b ∷ bs) = by (test (u ++ b ∷ [])) (reach_le test (u ++ b ∷ []) bs)
  where
    by : (t : Bool) → reach test (u ++ b ∷ []) bs ≤ length bs → cond t (suc (reach test (u ++ b ∷ []) bs)) 0 ≤ suc (length bs)
    by true h = omega arith
    by false h = omega arith

-- What is read passes the test.
pub reached : (test : List ℕ → Bool) (u bs : List ℕ) → 0 < reach test u bs → test (u ++ take (reach test u bs) bs) ≡ true
unfolding reach
reached test u [] h = absurd (omega arith)
reached test u (b ∷ bs) h = by (test (u ++ b ∷ [])) refl (reached test (u ++ b ∷ []) bs) h
  where
    last : (k : ℕ) → reach test (u ++ b ∷ []) bs ≡ k → test (u ++ b ∷ []) ≡ true → (0 < k → test ((u ++ b ∷ []) ++ take k bs) ≡ true) → test ((u ++ b ∷ []) ++ take k bs) ≡ true
    last zero i e f = rw append-nil e
    last (suc k) i e f = f (omega arith)

    by : (t : Bool) → test (u ++ b ∷ []) ≡ t → (0 < reach test (u ++ b ∷ []) bs → test ((u ++ b ∷ []) ++ take (reach test (u ++ b ∷ []) bs) bs) ≡ true) →
        0 < cond t (suc (reach test (u ++ b ∷ []) bs)) 0 → test (u ++ take (cond t (suc (reach test (u ++ b ∷ []) bs)) 0) (b ∷ bs)) ≡ true
    by true e f h = rw append_snoc at (last (reach test (u ++ b ∷ []) bs) refl e f)
    by false e f h = absurd (omega arith)

-- One blank between words.
from_blank : (n : ℕ) (q : State) (b : ℕ) (bs : List ℕ) → is_blank b ≡ true → from n q (b ∷ bs) ≡ from (suc n) q bs
unfolding run
from_blank n q b bs h = let z : suc (n + 0) ≡ suc n = omega arith in rw (not_fresh q b h, h, z)

pub from_blanks : (n : ℕ) (q : State) (bs : List ℕ) → from n q bs ≡ from (n + blanks bs) q (drop (blanks bs) bs)
unfolding blanks
from_blanks n q [] = let z : n + 0 ≡ n = omega arith in rw z
from_blanks n q (b ∷ bs) = by (is_blank b) refl (from_blanks (suc n) q bs)
  where
    by : (t : Bool) → is_blank b ≡ t → from (suc n) q bs ≡ from (suc n + blanks bs) q (drop (blanks bs) bs) →
        from n q (b ∷ bs) ≡ from (n + cond t (suc (blanks bs)) 0) q (drop (cond t (suc (blanks bs)) 0) (b ∷ bs))
    by true e f = let z : suc n + blanks bs ≡ n + suc (blanks bs) = omega arith in from_blank n q b bs e ∙ f ∙ rw z
    by false e f = let z : n + 0 ≡ n = omega arith in rw z

-- after a word that ends at e, or that is none
abbrev pub after-word : ℕ → State → List ℕ → Reading
after-word e q bs = cond (parted bs) (from e q bs) (faulty (parts_of q) e)

abbrev pub arrive : Option State → State → ℕ → List ℕ → Reading
arrive none q e bs = faulty (parts_of q) e
arrive (some r) q e bs = after-word e r bs

module _ (q : State) (n : ℕ) (w : List ℕ) (e : ℕ) where
  -- what is complete where the word may be over
  faults : (o : Option State) → pause descriptions q n w ≡ o → faulty (complete (mid q n w)) e ≡ faulty (parts_of (Option.get_or o q)) e
  faults o h = ap (λ (s : Option State). faulty (parts_of (Option.get_or s q)) e) h

  -- the text ends
  ends_here : (o : Option State) → pause descriptions q n w ≡ o → reading (run (machine descriptions) e (mid q n w) []) ≡ arrive o q e []
  unfolding run
  ends_here none h = rw h (faults none h)
  ends_here (some r) h = rw h (by (ends r))
    where
      by : (o : Option Parts) → reading (closed (mid q n w) e o) ≡ reading (closed (mid r e []) e o)
      by none = faults (some r) h
      by (some es) = refl

  -- a byte that does not go on
  goes_off : (b : ℕ) (rest : List ℕ) → begins q (w ++ b ∷ []) ≡ false → n + length w ≡ e → (t : Bool) → is_blank b ≡ t → (o : Option State) → pause descriptions q n w ≡ o →
      reading (run (machine descriptions) e (mid q n w) (b ∷ rest)) ≡ arrive o q e (b ∷ rest)
  unfolding run
  goes_off b rest g l false i none h = rw (g, i) (faults none h)
  goes_off b rest g l true i none h = rw (g, i, h) (faults none h)
  goes_off b rest g l false i (some r) h = rw (g, i) (faults (some r) h)
  goes_off b rest g l true i (some r) h = rw (g, i, h, l) (sym (from_blank e r b rest i))

  off : (bs : List ℕ) → Stop (begins q) w bs → n + length w ≡ e → reading (run (machine descriptions) e (mid q n w) bs) ≡ arrive (pause descriptions q n w) q e bs
  off [] s l = ends_here (pause descriptions q n w) refl
  off (b ∷ rest) (Stop.at g) l = goes_off b rest g l (is_blank b) refl (pause descriptions q n w) refl

-- A word is read as far as it may go on, and decided there.
pub from_word : (n : ℕ) (q : State) (bs : List ℕ) →
    from n q bs ≡ arrive (pause descriptions q n (take (reach (begins q) [] bs) bs)) q (n + reach (begins q) [] bs) (drop (reach (begins q) [] bs) bs)
from_word n q bs =
    ap reading (run-reach q n n [] bs)
    ∙ off q n (take (reach (begins q) [] bs) bs) (n + reach (begins q) [] bs) (drop (reach (begins q) [] bs) bs) (stops (begins q) [] bs)
    (omega (arith, length-take (reach (begins q) [] bs) bs, reach_le (begins q) [] bs))

pub blanks-after : (bs : List ℕ) → blanks (drop (blanks bs) bs) ≡ 0
unfolding blanks
blanks-after [] = refl
blanks-after (b ∷ bs) = by (is_blank b) refl (blanks-after bs)
  where
    by : (t : Bool) → is_blank b ≡ t → blanks (drop (blanks bs) bs) ≡ 0 → blanks (drop (cond t (suc (blanks bs)) 0) (b ∷ bs)) ≡ 0
    by true e f = f
    by false e f = rw e

-- Blanks are passed over.
pub onward-inked : (text : List ℕ) (n : ℕ) (q : State) → onward text n q ≡ onward text (inked text n) q
onward-inked text n q = from_blanks n q (drop n text) ∙ ap (from (inked text n) q) (drop-drop (blanks (drop n text)) n text)

pub inked-blanks : (text : List ℕ) (n : ℕ) → blanks (drop (inked text n) text) ≡ 0
inked-blanks text n = ap blanks (sym (drop-drop (blanks (drop n text)) n text)) ∙ blanks-after (drop n text)

-- A state in which no text ends, and that asks for a word.
pub record Middle (q : State) : Type 0 where
  pub unended : ends q ≡ none
  pub asks : (p : ℕ) → next q p [] ≡ none

-- with no blank after a word, or no word at all, it is faulty
stays_at : (e : ℕ) (q : State) (bs : List ℕ) → ends q ≡ none → blanks bs ≡ 0 → after-word e q bs ≡ faulty (parts_of q) e
unfolding run blanks
stays_at e q [] h z = rw h
stays_at e q (b ∷ bs) h z = by (is_blank b) refl z
  where
    by : (t : Bool) → is_blank b ≡ t → cond t (suc (blanks bs)) 0 ≡ 0 → cond t (from e q (b ∷ bs)) (faulty (parts_of q) e) ≡ faulty (parts_of q) e
    by true i z = absurd (omega arith)
    by false i z = refl

parted-blanks : (bs : List ℕ) → 0 < blanks bs → parted bs ≡ true
unfolding blanks
parted-blanks [] h = refl
parted-blanks (b ∷ bs) h = by (is_blank b) refl h
  where
    by : (t : Bool) → is_blank b ≡ t → 0 < cond t (suc (blanks bs)) 0 → is_blank b ≡ true
    by true i h = i
    by false i h = absurd (omega arith)

-- what a decided word leads to
abbrev pub leads : List ℕ → Option State → State → ℕ → Reading
leads text none q e = faulty (parts_of q) e
leads text (some r) q e = joined text e r

module _ (text : List ℕ) (e : ℕ) (q : State) (M : Middle q) where
  pub no_word : inked text e ≡ e → joined text e q ≡ faulty (parts_of q) e
  no_word h = stays_at e q (drop e text) M.unended (omega arith)

  abbrev pub word_reach : ℕ
  word_reach = reach (begins q) [] (drop (inked text e) text)

  decided : (m : ℕ) → word_reach ≡ m → onward text (inked text e) q ≡ arrive (pause descriptions q (inked text e) (take m (drop (inked text e) text))) q (inked text e + m)
      (drop m (drop (inked text e) text)) →
      onward text (inked text e) q ≡ leads text (next q (inked text e) (take m (drop (inked text e) text))) q (inked text e + m)
  decided zero h f =
      let z : inked text e + 0 ≡ inked text e = omega arith in
      f ∙ rw (z, M.asks (inked text e)) (stays_at (inked text e) q (drop (inked text e) text) M.unended (inked-blanks text e))
  decided (suc m) h f =
      f ∙ by (drop (inked text e) text) (rw h at (reach_le (begins q) [] (drop (inked text e) text))) (drop-drop (suc m) (inked text e) text)
    where
      same : (o : Option State) (bs : List ℕ) → bs ≡ drop (inked text e + suc m) text → arrive o q (inked text e + suc m) bs ≡ leads text o q (inked text e + suc m)
      same none bs i = refl
      same (some r) bs i = rw i

      by : (rest : List ℕ) → suc m ≤ length rest → drop (suc m) rest ≡ drop (inked text e + suc m) text →
          arrive (pause descriptions q (inked text e) (take (suc m) rest)) q (inked text e + suc m) (drop (suc m) rest)
          ≡ leads text (next q (inked text e) (take (suc m) rest)) q (inked text e + suc m)
      by [] l i = absurd (omega arith)
      by (b ∷ rest) l i = same (next q (inked text e) (b ∷ take m rest)) (drop m rest) i

  -- A word after a blank.
  pub word-leads : ¬ (inked text e ≡ e) →
      joined text e q ≡ leads text (next q (inked text e) (take word_reach (drop (inked text e) text))) q (inked text e + word_reach)
  word-leads h =
      let p : parted (drop e text) ≡ true = parted-blanks (drop e text) (omega arith) in
      rw p (onward-inked text e q ∙ decided word_reach refl (from_word (inked text e) q (drop (inked text e) text)))
