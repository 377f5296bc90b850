-- Each kind of word, read as specs/Stages.antt says, is what the reader takes there.
use mathlib.Core.Path.{◌≡◌, refl, sym, ap, subst, ◌∙◌}
use mathlib.Core.Logic.{◌⊎◌, inl, inr}
use mathlib.Core.Bool.{Bool, true, false, cond, ◌&&◌, ◌||◌, or-false}
use mathlib.Core.Option.{Option, none, some}
use mathlib.Core.List.{List, [], ◌∷◌, ◌++◌, append-nil}
use Prim.Native.Nat.{ℕ, zero, suc, ◌+◌, ◌*◌, ◌-◌, ◌≤◌, ◌<◌}
use native.Mathlib.Omega.{arith}
use borrow.Author.Tests.{eqb-true, eqb-false}
use lib.Dec.{eqb, leb}
use lib.ListN.{length, get_or, take, drop, length-take}
use lib.Seq.{append_snoc, drop-drop, get_or-drop}
use Rattle.description.specs.Machine.{bind, after, result}
use Rattle.description.specs.Grammar.{bytes, same, ended, Entry, item, packed}
use Rattle.description.specs.Reader.{given, or_else, prefix, unended, Started, State, name, pic, picture, sign, side, separate, finished, opened, next, begins, ends, parts_of, Reading, faulty}
use Rattle.description.specs.Stages.{inked, reach, common, met, literal_at, sided, side_at, joined}
use Rattle.description.specs.declared.Sided.{Sided}
use Rattle.description.proofs.Bytes.{apart, eqb_same, eqb_no}
use Rattle.description.proofs.Stages.{Middle, no_word, word-leads, word_reach, leads}
use Rattle.std.specs.Prelude.{Err, Ok, Result}

-- Two tests that agree on the beginnings of a text reach as far.
pub reach-agree : (f g : List ℕ → Bool) (u bs : List ℕ) → ((k : ℕ) → f (u ++ take (suc k) bs) ≡ g (u ++ take (suc k) bs)) → reach f u bs ≡ reach g u bs
unfolding reach
reach-agree f g u [] h = refl
reach-agree f g u (b ∷ bs) h =
    rw (h 0) (by (g (u ++ b ∷ [])) (reach-agree f g (u ++ b ∷ []) bs (λ k. rw (append_snoc u b (take (suc k) bs)) (h (suc k)))))
  where
    by : (t : Bool) → reach f (u ++ b ∷ []) bs ≡ reach g (u ++ b ∷ []) bs →
        cond t (suc (reach f (u ++ b ∷ []) bs)) 0 ≡ cond t (suc (reach g (u ++ b ∷ []) bs)) 0
    by true more = ap suc more
    by false more = refl

-- Words that are asked for.
prefix_snoc : (v : List ℕ) (b : ℕ) (w : List ℕ) → prefix (v ++ b ∷ []) (v ++ w) ≡ prefix (b ∷ []) w
unfolding prefix
prefix_snoc [] b w = refl
prefix_snoc (a ∷ v) b w = rw (eqb_same a) (prefix_snoc v b w)

pub reach-prefix : (v w bs : List ℕ) → reach (λ u. prefix u (v ++ w)) v bs ≡ common w bs
unfolding reach common prefix
reach-prefix v [] [] = refl
reach-prefix v (a ∷ w) [] = refl
reach-prefix v [] (b ∷ bs) = rw (prefix_snoc v b [])
reach-prefix v (a ∷ w) (b ∷ bs) = rw (prefix_snoc v b (a ∷ w)) (by (eqb b a) refl (reach-prefix (v ++ b ∷ []) w bs))
  where
    by : (t : Bool) → eqb b a ≡ t → reach (λ u. prefix u ((v ++ b ∷ []) ++ w)) (v ++ b ∷ []) bs ≡ common w bs →
        cond (t && true) (suc (reach (λ u. prefix u (v ++ a ∷ w)) (v ++ b ∷ []) bs)) 0 ≡ cond t (suc (common w bs)) 0
    by true e more =
        let i : b ≡ a = eqb-true b a e in
        let j : v ++ a ∷ w ≡ (v ++ b ∷ []) ++ w = rw i (sym (append_snoc v a w)) in
        ap suc (rw j more)
    by false e more = refl

pub eqb_suc : (a b : ℕ) → eqb (suc a) (suc b) ≡ eqb a b
eqb_suc a b = by (eqb a b) refl
  where
    by : (t : Bool) → eqb a b ≡ t → eqb (suc a) (suc b) ≡ t
    by true e = rw (eqb-true a b e) (eqb_same (suc b))
    by false e = eqb_no (suc a) (suc b) (λ i. eqb-false a b e (omega arith))

pub same-common : (w bs : List ℕ) → same (take (common w bs) bs) w ≡ eqb (common w bs) (length w)
unfolding same common
same-common [] [] = refl
same-common [] (b ∷ bs) = refl
same-common (a ∷ w) [] = sym (eqb_no 0 (suc (length w)) (λ e. omega arith))
same-common (a ∷ w) (b ∷ bs) = by (eqb b a) refl (same-common w bs)
  where
    by : (t : Bool) → eqb b a ≡ t → same (take (common w bs) bs) w ≡ eqb (common w bs) (length w) →
        same (take (cond t (suc (common w bs)) 0) (b ∷ bs)) (a ∷ w) ≡ eqb (cond t (suc (common w bs)) 0) (suc (length w))
    by true e more = rw (e, eqb_suc (common w bs) (length w)) more
    by false e more = sym (eqb_no 0 (suc (length w)) (λ e. omega arith))

-- what a word that was asked for leads to
abbrev pub on_reached : List ℕ → State → State → Result ℕ ℕ → Reading
on_reached text q r (Ok k) = joined text k r
on_reached text q r (Err k) = faulty (parts_of q) k

module _ (text : List ℕ) (e : ℕ) (q r : State) (M : Middle q) (word : List ℕ) where
  abbrev rest : List ℕ
  rest = drop (inked text e) text

  literal-met : (m : ℕ) (t : Bool) → eqb m (length word) ≡ t → leads text (given t r) q (inked text e + m) ≡ on_reached text q r
      (cond t (Ok (inked text e + m)) (Err (inked text e + m)))
  literal-met m true h = refl
  literal-met m false h = refl

  -- A state that asks for one word.
  pub literal-leads : ((k : ℕ) → begins q (take (suc k) rest) ≡ prefix (take (suc k) rest) word) →
      ((k : ℕ) → next q (inked text e) (take k rest) ≡ given (same (take k rest) word) r) →
      joined text e q ≡ on_reached text q r (literal_at word text e)
  literal-leads f g = by (eqb (inked text e) e) refl
    where
      reaches : word_reach text e q M ≡ common word rest
      reaches = reach-agree (begins q) (λ u. prefix u word) [] rest f ∙ reach-prefix [] word rest

      by : (t : Bool) → eqb (inked text e) e ≡ t →
          joined text e q ≡ on_reached text q r (cond t (Err e) (met (length word) (inked text e) (common word rest)))
      by true h = no_word text e q M (eqb-true (inked text e) e h)
      by false h =
          word-leads text e q M (eqb-false (inked text e) e h)
          ∙ rw (reaches, g (common word rest), same-common word rest) (literal-met (common word rest) (eqb (common word rest) (length word)) refl)

-- PIC and SEPARATE.
pub pic_leads : (text : List ℕ) (e : ℕ) (h : Started) (n : ℕ) →
    joined text e (pic h n) ≡ on_reached text (pic h n) (picture h n) (literal_at (bytes "PIC") text e)
unfolding next begins same
pic_leads text e h n = literal-leads text e (pic h n) (picture h n) (record { unended = refl; asks = λ p. refl }) (bytes "PIC") (λ k. refl) (λ k. refl)

pub separate_leads : (text : List ℕ) (e : ℕ) (h : Started) (n c i j : ℕ) →
    joined text e (separate h n c i j)
    ≡ on_reached text (separate h n c i j) (finished h n (item c (i + j + 1) j (i + j))) (literal_at (ended (bytes "SEPARATE")) text e)
unfolding next begins same
separate_leads text e h n c i j =
    literal-leads text e (separate h n c i j) (finished h n (item c (i + j + 1) j (i + j))) (record { unended = refl; asks = λ p. refl }) (ended (bytes "SEPARATE"))
    (λ k. refl) (λ k. refl)

-- LEADING or TRAILING: the first byte tells which.
abbrev pub on_sided : List ℕ → Started → ℕ → ℕ → ℕ → Result Sided ℕ → Reading
on_sided text h n i j (Ok s) = joined text s.end (separate h n s.kind i j)
on_sided text h n i j (Err k) = faulty h.earlier k

sided-leads : (text : List ℕ) (h : Started) (n i j c : ℕ) (x : Result ℕ ℕ) →
    on_reached text (side h n i j) (separate h n c i j) x ≡ on_sided text h n i j (sided c x)
sided-leads text h n i j c (Ok k) = refl
sided-leads text h n i j c (Err k) = refl

pub or_nothing : (o : Option State) → or_else o none ≡ o
or_nothing none = refl
or_nothing (some r) = refl

-- the byte at which a word begins
pub first : (text : List ℕ) (e : ℕ) → get_or (drop (inked text e) text) 0 0 ≡ get_or text (inked text e) 0
first text e = let z : inked text e + 0 ≡ inked text e = omega arith in get_or-drop (inked text e) text 0 0 ∙ rw z

module _ (h : Started) (n i j p : ℕ) where
  side_middle : Middle (side h n i j)
  unfolding next same
  side_middle = record { unended = refl; asks = λ p. refl }

  -- every beginning of a text, by its first byte
  trailing_begins : (bs : List ℕ) (k : ℕ) → get_or bs 0 0 ≡ 0x54 → begins (side h n i j) (take (suc k) bs) ≡ prefix (take (suc k) bs) (bytes "TRAILING")
  unfolding begins prefix
  trailing_begins [] k e = absurd (omega arith)
  trailing_begins (b ∷ bs) k e = rw e

  trailing_next : (bs : List ℕ) (k : ℕ) → get_or bs 0 0 ≡ 0x54 → next (side h n i j) p (take k bs) ≡ given (same (take k bs) (bytes "TRAILING")) (separate h n 6 i j)
  unfolding next same
  trailing_next bs zero e = refl
  trailing_next [] (suc k) e = absurd (omega arith)
  trailing_next (b ∷ bs) (suc k) e = rw e

  leading-begins : (bs : List ℕ) (k : ℕ) → eqb (get_or bs 0 0) 0x54 ≡ false → begins (side h n i j) (take (suc k) bs) ≡ prefix (take (suc k) bs) (bytes "LEADING")
  unfolding begins prefix
  leading-begins [] k e = refl
  leading-begins (b ∷ bs) k e = rw e (or-false (prefix (b ∷ take k bs) (bytes "LEADING")))

  leading-next : (bs : List ℕ) (k : ℕ) → eqb (get_or bs 0 0) 0x54 ≡ false → next (side h n i j) p (take k bs) ≡ given (same (take k bs) (bytes "LEADING")) (separate h n 5 i j)
  unfolding next same
  leading-next bs zero e = refl
  leading-next [] (suc k) e = refl
  leading-next (b ∷ bs) (suc k) e = rw e (or_nothing (given (same (b ∷ take k bs) (bytes "LEADING")) (separate h n 5 i j)))

pub side-leads : (text : List ℕ) (e : ℕ) (h : Started) (n i j : ℕ) → joined text e (side h n i j) ≡ on_sided text h n i j (side_at text e)
side-leads text e h n i j = by (eqb (get_or text (inked text e) 0) 0x54) refl
  where
    by : (t : Bool) → eqb (get_or text (inked text e) 0) 0x54 ≡ t →
        joined text e (side h n i j) ≡ on_sided text h n i j (cond t (sided 6 (literal_at (bytes "TRAILING") text e)) (sided 5 (literal_at (bytes "LEADING") text e)))
    by true k =
        let f : get_or (drop (inked text e) text) 0 0 ≡ 0x54 = first text e ∙ eqb-true (get_or text (inked text e) 0) 0x54 k in
        literal-leads text e (side h n i j) (separate h n 6 i j) (side_middle h n i j 0) (bytes "TRAILING")
        (λ x. trailing_begins h n i j 0 (drop (inked text e) text) x f) (λ x. trailing_next h n i j (inked text e) (drop (inked text e) text) x f)
        ∙ sided-leads text h n i j 6 (literal_at (bytes "TRAILING") text e)
    by false k =
        let f : eqb (get_or (drop (inked text e) text) 0 0) 0x54 ≡ false = rw (first text e) k in
        literal-leads text e (side h n i j) (separate h n 5 i j) (side_middle h n i j 0) (bytes "LEADING")
        (λ x. leading-begins h n i j 0 (drop (inked text e) text) x f) (λ x. leading-next h n i j (inked text e) (drop (inked text e) text) x f)
        ∙ sided-leads text h n i j 5 (literal_at (bytes "LEADING") text e)

-- SIGN or COMP-3: the first byte tells which, and without an S in the picture it is COMP-3.
module _ (h : Started) (n i j p : ℕ) where
  sign_middle : (s : Bool) → Middle (sign h n s i j)
  unfolding next same
  sign_middle true = record { unended = refl; asks = λ p. refl }
  sign_middle false = record { unended = refl; asks = λ p. refl }

  sign_begins : (bs : List ℕ) (k : ℕ) → get_or bs 0 0 ≡ 0x53 → begins (sign h n true i j) (take (suc k) bs) ≡ prefix (take (suc k) bs) (bytes "SIGN")
  unfolding begins prefix
  sign_begins [] k e = absurd (omega arith)
  sign_begins (b ∷ bs) k e = rw e (or-false (prefix (0x53 ∷ take k bs) (bytes "SIGN")))

  sign_next : (bs : List ℕ) (k : ℕ) → get_or bs 0 0 ≡ 0x53 → next (sign h n true i j) p (take k bs) ≡ given (same (take k bs) (bytes "SIGN")) (side h n i j)
  unfolding next same
  sign_next bs zero e = refl
  sign_next [] (suc k) e = absurd (omega arith)
  sign_next (b ∷ bs) (suc k) e = rw e (or_nothing (given (same (0x53 ∷ take k bs) (bytes "SIGN")) (side h n i j)))

  packed-begins : (s : Bool) (bs : List ℕ) (k : ℕ) → s && eqb (get_or bs 0 0) 0x53 ≡ false →
      begins (sign h n s i j) (take (suc k) bs) ≡ prefix (take (suc k) bs) (ended (bytes "COMP-3"))
  unfolding begins prefix
  packed-begins false bs k e = refl
  packed-begins true [] k e = refl
  packed-begins true (b ∷ bs) k e = rw e

  packed-next : (s : Bool) (bs : List ℕ) (k : ℕ) → s && eqb (get_or bs 0 0) 0x53 ≡ false →
      next (sign h n s i j) p (take k bs) ≡ given (same (take k bs) (ended (bytes "COMP-3"))) (finished h n (packed s i j))
  unfolding next same
  packed-next false bs k e = refl
  packed-next true bs zero e = refl
  packed-next true [] (suc k) e = refl
  packed-next true (b ∷ bs) (suc k) e = rw e

pub sign_leads : (text : List ℕ) (e : ℕ) (h : Started) (n i j : ℕ) → get_or text (inked text e) 0 ≡ 0x53 →
    joined text e (sign h n true i j) ≡ on_reached text (sign h n true i j) (side h n i j) (literal_at (bytes "SIGN") text e)
sign_leads text e h n i j k =
    literal-leads text e (sign h n true i j) (side h n i j) (sign_middle h n i j 0 true) (bytes "SIGN")
    (λ x. sign_begins h n i j 0 (drop (inked text e) text) x (first text e ∙ k)) (λ x. sign_next h n i j (inked text e) (drop (inked text e) text) x (first text e ∙ k))

pub packed-leads : (text : List ℕ) (e : ℕ) (h : Started) (n : ℕ) (s : Bool) (i j : ℕ) → s && eqb (get_or text (inked text e) 0) 0x53 ≡ false →
    joined text e (sign h n s i j) ≡ on_reached text (sign h n s i j) (finished h n (packed s i j)) (literal_at (ended (bytes "COMP-3")) text e)
packed-leads text e h n s i j k =
    let f : s && eqb (get_or (drop (inked text e) text) 0 0) 0x53 ≡ false = rw (first text e) k in
    literal-leads text e (sign h n s i j) (finished h n (packed s i j)) (sign_middle h n i j 0 s) (ended (bytes "COMP-3"))
    (λ x. packed-begins h n i j 0 s (drop (inked text e) text) x f) (λ x. packed-next h n i j (inked text e) s (drop (inked text e) text) x f)
