-- Words that a period may end: names and pictures, read as specs/Stages.antt says, are what the reader takes there.
use mathlib.Core.Path.{◌≡◌, refl, sym, ap, subst, ◌∙◌}
use mathlib.Core.Bool.{Bool, true, false, cond, ◌&&◌, ◌||◌, and-false}
use mathlib.Core.Option.{Option, none, some}
use mathlib.Core.List.{List, [], ◌∷◌, ◌++◌, append-nil}
use Prim.Native.Nat.{ℕ, zero, suc, ◌+◌, ◌≤◌, ◌<◌}
use native.Mathlib.Omega.{arith}
use borrow.Author.Tests.{eqb-true, eqb-false}
use lib.Dec.{eqb, leb}
use lib.ListN.{length, get_or, take, drop, length-append}
use lib.Seq.{append_snoc, get_or-drop, take-suc}
use Rattle.description.specs.Machine.{bind, after, result}
use Rattle.description.specs.Grammar.{ended, all, any, same, is_name_byte, Shape, characters, number, Picture, content, item, Entry}
use Rattle.description.specs.Grammar.{Called as Calls}
use Rattle.description.specs.Reader.{is_some, given, or_else, unended, ended_by, groupable, is_name, is_called, begins_name, nothing, pictures}
use Rattle.description.specs.Reader.{Started, State, name, pic, picture, sign, finished, opened, unfinished, next, begins, ends, parts_of}
use Rattle.description.specs.Reader.{Reading, faulty}
use Rattle.description.specs.Stages.{inked, reach, joined, called_at, name_reach, name_from, name_at, is_period, picture_reach, shape_from, ended_picture, open_picture, pictured, picture_from, picture_at}
use Rattle.description.specs.declared.Called.{Called}
use Rattle.description.specs.declared.Called.TheVariants as Called
use Rattle.description.specs.declared.Pictured.{Pictured}
use Rattle.description.specs.declared.Pictured.TheVariants as Pictured
use Rattle.description.proofs.Machine.{after_lives}
use Rattle.description.proofs.Bytes.{apart, is_some_lem, all_append, unended_is, unended_of}
use Rattle.description.proofs.Names.{completes_name, begins-called, called-made, not_called}
use Rattle.description.proofs.Takes.{no_picture}
use Rattle.description.proofs.Fit.{drawn-some}
use Rattle.description.proofs.Pictures as P
use Rattle.description.proofs.Stages.{Middle, no_word, word-leads, word_reach, leads, reached}
use Rattle.std.specs.Prelude.{Result, Ok, Err}

pub unended_snoc : (u : List ℕ) (b : ℕ) → unended (u ++ b ∷ []) ≡ given (eqb b 0x2e) u
unfolding unended
unended_snoc [] b = refl
unended_snoc (a ∷ []) b = by (eqb b 0x2e)
  where
    by : (t : Bool) → bind (given t []) (λ v. some (a ∷ v)) ≡ given t (a ∷ [])
    by true = refl
    by false = refl
unended_snoc (a ∷ c ∷ u) b = rw (unended_snoc (c ∷ u) b) (by (eqb b 0x2e))
  where
    by : (t : Bool) → bind (given t (c ∷ u)) (λ v. some (a ∷ v)) ≡ given t (a ∷ c ∷ u)
    by true = refl
    by false = refl

pub ended_snoc : (test : List ℕ → Bool) (u : List ℕ) (b : ℕ) → ended_by test (u ++ b ∷ []) ≡ eqb b 0x2e && test u
ended_snoc test u b = rw (unended_snoc u b) (by (eqb b 0x2e) (test u))
  where
    by : (t s : Bool) → is_some (bind (given t u) (λ v. given (test v) v)) ≡ t && test u
    by true s = last (test u)
      where
        last : (s : Bool) → is_some (given s u) ≡ s
        last true = refl
        last false = refl
    by false s = refl

-- A test that every beginning of what passes it passes, and a test of what a period may end.
pub record Ends (f g : List ℕ → Bool) : Type 0 where
  pub closed : (u : List ℕ) (c : ℕ) → f (u ++ c ∷ []) ≡ true → f u ≡ true
  pub once : (u : List ℕ) → g (ended u) ≡ false

module _ (f g : List ℕ → Bool) (E : Ends f g) where
  abbrev either : List ℕ → Bool
  either u = f u || ended_by g u

  after_period : (u bs : List ℕ) → f (ended u) ≡ false → reach either (ended u) bs ≡ 0
  unfolding reach
  after_period u [] i = refl
  after_period u (c ∷ bs) i = rw (by (f (ended u ++ c ∷ [])) refl)
    where
      by : (t : Bool) → f (ended u ++ c ∷ []) ≡ t → t || ended_by g (ended u ++ c ∷ []) ≡ false
      by true h = apart (E.closed (ended u) c h) i
      by false h = ended_snoc g (ended u) c ∙ rw (E.once u) (and-false (eqb c 0x2e))

  -- the period is read too where it may stand
  pub reach-ended : (u bs : List ℕ) →
      reach either u bs ≡ cond (eqb (get_or (drop (reach f u bs) bs) 0 0) 0x2e && g (u ++ take (reach f u bs) bs)) (suc (reach f u bs)) (reach f u bs)
  unfolding reach
  reach-ended u [] = refl
  reach-ended u (b ∷ bs) = by (f (u ++ b ∷ [])) refl (reach-ended (u ++ b ∷ []) bs)
    where
      one_more : (t : Bool) (m : ℕ) → suc (cond t (suc m) m) ≡ cond t (suc (suc m)) (suc m)
      one_more true m = refl
      one_more false m = refl

      period : f (u ++ b ∷ []) ≡ false → (t : Bool) → eqb b 0x2e && g u ≡ t → cond t (suc (reach either (u ++ b ∷ []) bs)) 0 ≡ cond t 1 0
      period i true h = let j : b ≡ 0x2e = eqb-true b 0x2e (first (eqb b 0x2e) (g u) h) in ap suc (rw j (after_period u bs (rw j at i)))
        where
          first : (x y : Bool) → x && y ≡ true → x ≡ true
          first true y h = refl
          first false y h = apart h refl
      period i false h = refl

      by : (t : Bool) → f (u ++ b ∷ []) ≡ t →
          reach either (u ++ b ∷ []) bs
          ≡ cond (eqb (get_or (drop (reach f (u ++ b ∷ []) bs) bs) 0 0) 0x2e && g ((u ++ b ∷ []) ++ take (reach f (u ++ b ∷ []) bs) bs))
          (suc (reach f (u ++ b ∷ []) bs)) (reach f (u ++ b ∷ []) bs) →
          cond (f (u ++ b ∷ []) || ended_by g (u ++ b ∷ [])) (suc (reach either (u ++ b ∷ []) bs)) 0
          ≡ cond (eqb (get_or (drop (cond t (suc (reach f (u ++ b ∷ []) bs)) 0) (b ∷ bs)) 0 0) 0x2e && g (u ++ take (cond t (suc (reach f (u ++ b ∷ []) bs)) 0) (b ∷ bs)))
          (suc (cond t (suc (reach f (u ++ b ∷ []) bs)) 0)) (cond t (suc (reach f (u ++ b ∷ []) bs)) 0)
      by true h more =
          rw (h, more, append_snoc u b (take (reach f (u ++ b ∷ []) bs) bs))
          (one_more (eqb (get_or (drop (reach f (u ++ b ∷ []) bs) bs) 0 0) 0x2e && g (u ++ b ∷ take (reach f (u ++ b ∷ []) bs) bs)) (reach f (u ++ b ∷ []) bs))
      by false h more = rw (h, ended_snoc g u b, append-nil u) (period h (eqb b 0x2e && g u) refl)

  -- what is read before the period has none, where no word with one goes on
  no_period : ((u : List ℕ) → f (ended u) ≡ false) → (bs : List ℕ) → unended (take (reach f [] bs) bs) ≡ none
  unfolding unended
  no_period goes_on bs = by (reach f [] bs) refl (reached f [] bs)
    where
      long : (w : List ℕ) → f w ≡ true → (o : Option (List ℕ)) → unended w ≡ o → unended w ≡ none
      long w h none i = i
      long w h (some v) i = apart h (rw (unended_is w v i) (goes_on v))

      by : (m : ℕ) → reach f [] bs ≡ m → (0 < m → f (take m bs) ≡ true) → unended (take m bs) ≡ none
      by zero h r = refl
      by (suc m) h r = long (take (suc m) bs) (r (omega arith)) (unended (take (suc m) bs)) refl

-- the byte after the first m, in the text
pub byte_after : (text : List ℕ) (p m : ℕ) → get_or (drop m (drop p text)) 0 0 ≡ get_or text (p + m) 0
byte_after text p m = let z : m + 0 ≡ m = omega arith in get_or-drop m (drop p text) 0 0 ∙ rw z (get_or-drop p text m 0)

-- a word and its period
pub with_period : (bs : List ℕ) (m : ℕ) → eqb (get_or (drop m bs) 0 0) 0x2e ≡ true → take (suc m) bs ≡ ended (take m bs)
with_period [] zero e = apart e refl
with_period [] (suc m) e = apart e refl
with_period (b ∷ bs) zero e = rw (eqb-true b 0x2e e)
with_period (b ∷ bs) (suc m) e = ap (λ (l : List ℕ). b ∷ l) (with_period bs m e)

-- Names.
names_end : (l : ℕ) → Ends begins_name (λ v. is_called v && groupable l)
unfolding all begins_name
names_end l = record { closed = closed; once = λ u. rw (not_called u) }
  where
    closed : (u : List ℕ) (c : ℕ) → begins_name (u ++ c ∷ []) ≡ true → begins_name u ≡ true
    closed [] c h = refl
    closed (b ∷ u) c h = let k = completes_name (b ∷ u ++ c ∷ []) h in begins-called b u (c ∷ k.0) (rw append_snoc at (Calls.name k.1))

name_goes_on : (u : List ℕ) → begins_name (ended u) ≡ false
unfolding all
name_goes_on u = by (begins_name (ended u)) refl
  where
    by : (t : Bool) → begins_name (ended u) ≡ t → begins_name (ended u) ≡ false
    by false e = e
    by true e =
        let k = completes_name (ended u) e in
        apart (all_append is_name_byte u (0x2e ∷ []) (all_append is_name_byte (ended u) k.0 k.1.made).0).1 refl

-- what a name leads to
abbrev pub on_called : List ℕ → Started → ℕ → Result Called ℕ → Reading
on_called text h p (Ok (Called.Item k)) = joined text k (pic h p)
on_called text h p (Ok (Called.Group k)) = joined text k (opened h p)
on_called text h p (Err k) = faulty h.earlier k

module _ (text : List ℕ) (e : ℕ) (h : Started) where
  name_middle : Middle (name h)
  unfolding next unended is_name same any all
  name_middle = record { unended = refl; asks = λ p. refl }

  name_decided : (p m : ℕ) (bs : List ℕ) → unended (take m bs) ≡ none → (c d g : Bool) → is_called (take m bs) ≡ c → eqb (get_or (drop m bs) 0 0) 0x2e ≡ d → groupable h.level ≡ g →
      leads text (next (name h) p (take (cond (d && (c && g)) (suc m) m) bs)) (name h) (p + cond (d && (c && g)) (suc m) m) ≡ on_called text h p
      (cond c (cond (d && g) (Ok (Called.Group (p + m + 1))) (Ok (Called.Item (p + m)))) (Err (p + m)))
  unfolding next
  name_decided p m bs u true true true i j k =
      let z : p + suc m ≡ p + m + 1 = omega arith in
      rw (with_period bs m j, not_called (take m bs), unended_of (take m bs), i, k, z)
  name_decided p m bs u true true false i j k = rw i
  name_decided p m bs u true false true i j k = rw i
  name_decided p m bs u true false false i j k = rw i
  name_decided p m bs u false true g i j k = rw (i, u)
  name_decided p m bs u false false g i j k = rw (i, u)

  pub name_leads : joined text e (name h) ≡ on_called text h (inked text e) (name_at h.level text e)
  unfolding begins
  name_leads = by (eqb (inked text e) e) refl
    where
      by : (t : Bool) → eqb (inked text e) e ≡ t →
          joined text e (name h) ≡ on_called text h (inked text e) (cond t (Err e) (name_from h.level text (inked text e)))
      by true i = no_word text e (name h) name_middle (eqb-true (inked text e) e i)
      by false i =
          word-leads text e (name h) name_middle (eqb-false (inked text e) e i)
          ∙ rw (reach-ended begins_name (λ v. is_called v && groupable h.level) (names_end h.level) [] (drop (inked text e) text))
          (name_decided (inked text e) (name_reach text (inked text e)) (drop (inked text e) text)
          (no_period begins_name (λ v. is_called v && groupable h.level) (names_end h.level) name_goes_on (drop (inked text e) text))
          (is_called (take (name_reach text (inked text e)) (drop (inked text e) text)))
          (eqb (get_or (drop (name_reach text (inked text e)) (drop (inked text e) text)) 0 0) 0x2e)
          (groupable h.level) refl refl refl
          ∙ rw (byte_after text (inked text e) (name_reach text (inked text e))))

-- Pictures.
abbrev draws : List ℕ → Bool
draws u = is_some (after pictures nothing u)

abbrev draws_whole : List ℕ → Bool
draws_whole v = is_some (result pictures nothing v)

pictures_end : Ends draws draws_whole
pictures_end = record { closed = closed; once = λ u. rw (no_picture u) }
  where
    closed : (u : List ℕ) (c : ℕ) → draws (u ++ c ∷ []) ≡ true → draws u ≡ true
    closed u c h =
        let k = is_some_lem (after pictures nothing (u ++ c ∷ [])) h in
        let m = after_lives P.right nothing (u ++ c ∷ []) k.0 tt k.1 in
        drawn-some u (c ∷ m.0) m.1 (rw append_snoc at m.2)

picture_goes_on : (u : List ℕ) → draws (ended u) ≡ false
unfolding all
picture_goes_on u = by (draws (ended u)) refl
  where
    by : (t : Bool) → draws (ended u) ≡ t → draws (ended u) ≡ false
    by false e = e
    by true e =
        let k = is_some_lem (after pictures nothing (ended u)) e in
        let m = after_lives P.right nothing (ended u) k.0 tt k.1 in
        apart (all_append P.is_mark u (0x2e ∷ []) (all_append P.is_mark (ended u) m.0 (P.picture_made m.2)).0).1 refl

-- what a picture leads to
abbrev pub on_pictured : List ℕ → Started → ℕ → Result Pictured ℕ → Reading
on_pictured text h n (Ok (Pictured.Ended x)) = joined text x.end (finished h n (item x.kind x.size x.scale x.digits))
on_pictured text h n (Ok (Pictured.Number s i j k)) = joined text k (sign h n s i j)
on_pictured text h n (Err k) = faulty h.earlier k

module _ (text : List ℕ) (e : ℕ) (h : Started) (n : ℕ) where
  picture_middle : Middle (picture h n)
  unfolding next unended result after
  picture_middle = record { unended = refl; asks = λ p. refl }

  ended-leads : (k : ℕ) (s : Shape) → joined text k (finished h n (content s)) ≡ on_pictured text h n (ended_picture k s)
  ended-leads k (characters c m) = refl
  ended-leads k (number false i j) = refl
  ended-leads k (number true i j) = refl

  open_leads : (k : ℕ) (s : Shape) → leads text (or_else (unfinished h n s) none) (picture h n) k ≡ on_pictured text h n (open_picture k s)
  open_leads k (characters c m) = refl
  open_leads k (number s i j) = refl

  picture_decided : (p m : ℕ) (bs : List ℕ) → unended (take m bs) ≡ none → (o : Option Shape) (d : Bool) → result pictures nothing (take m bs) ≡ o → eqb (get_or (drop m bs) 0 0) 0x2e ≡ d →
      leads text (next (picture h n) p (take (cond (d && is_some o) (suc m) m) bs)) (picture h n) (p + cond (d && is_some o) (suc m) m) ≡ on_pictured text h n (pictured (p + m) o d)
  unfolding next
  picture_decided p m bs u none true i j = rw (i, u)
  picture_decided p m bs u none false i j = rw (i, u)
  picture_decided p m bs u (some s) true i j =
      let z : p + suc m ≡ p + m + 1 = omega arith in
      rw (with_period bs m j, no_picture (take m bs), unended_of (take m bs), i, z) (ended-leads (p + m + 1) s)
  picture_decided p m bs u (some s) false i j = rw (i, u) (open_leads (p + m) s)

  pub picture_leads : joined text e (picture h n) ≡ on_pictured text h n (picture_at text e)
  unfolding begins
  picture_leads = by (eqb (inked text e) e) refl
    where
      by : (t : Bool) → eqb (inked text e) e ≡ t →
          joined text e (picture h n) ≡ on_pictured text h n (cond t (Err e) (picture_from text (inked text e)))
      by true i = no_word text e (picture h n) picture_middle (eqb-true (inked text e) e i)
      by false i =
          word-leads text e (picture h n) picture_middle (eqb-false (inked text e) e i)
          ∙ rw (reach-ended draws draws_whole pictures_end [] (drop (inked text e) text))
          (picture_decided (inked text e) (picture_reach text (inked text e)) (drop (inked text e) text)
          (no_period draws draws_whole pictures_end picture_goes_on (drop (inked text e) text))
          (shape_from text (inked text e))
          (eqb (get_or (drop (picture_reach text (inked text e)) (drop (inked text e) text)) 0 0) 0x2e) refl refl
          ∙ rw (byte_after text (inked text e) (picture_reach text (inked text e))))
