-- How far a name may go on: 29 bytes that a name may have, the first no hyphen, and then one with which it is a name.
use mathlib.Core.Path.{◌≡◌, refl, sym, ap, ◌∙◌}
use mathlib.Core.Bool.{Bool, true, false, not, cond, ◌&&◌, ◌||◌, and-true}
use mathlib.Core.List.{List, [], ◌∷◌, ◌++◌}
use Prim.Native.Nat.{ℕ, zero, suc, ◌+◌, ◌-◌, ◌≤◌, ◌<◌}
use native.Mathlib.Omega.{arith}
use native.Mathlib.Numerals.{add-one}
use borrow.Author.Tests.{eqb-true, ltb-true, ltb-false, lt-ltb, le-ltb}
use lib.Dec.{eqb, leb, ltb}
use lib.ListN.{length, get_or, take, drop, length-append, length-drop, drop_of_length-le, get_or-eq_default}
use lib.Seq.{append_snoc, drop-cons}
use Rattle.description.specs.Grammar.{same, all, any, is_letter, is_hyphen, is_name_byte, within, keywords}
use Rattle.description.specs.Reader.{is_name, is_called, begins_name}
use Rattle.description.specs.Stages.{reach, inked, is_period, name_reach, name_at, label_at}
use Rattle.description.specs.declared.Called.{Called}
use Rattle.description.specs.declared.Called.TheVariants as Called
use Rattle.description.proofs.Bytes.{apart, eqb_same, eqb_no, leb_so, leb_no}
use Rattle.description.proofs.Stages.{reach_le}
use Rattle.description.proofs.Phases.{eqb_suc}
use Rattle.words.specs.Runs.{name_run}
use Rattle.text_bytes.proofs.Laws.{ink_within, part_from}
use Rattle.std.specs.Prelude.{Err, Ok}

-- Tests of each byte.
pub all_more : (test : ℕ → Bool) (w : List ℕ) (k : ℕ) → k < length w → test (get_or w k 0) ≡ true → all test w ≡ all test (drop k w) → all test w ≡ all test (drop (k + 1) w)
unfolding all
all_more test w k l h e = e ∙ rw (drop-cons w k 0 l, h, add-one)

pub all_other : (test : ℕ → Bool) (w : List ℕ) (k : ℕ) → k < length w → test (get_or w k 0) ≡ false → all test w ≡ all test (drop k w) → false ≡ all test w
unfolding all
all_other test w k l h e = sym (e ∙ rw (drop-cons w k 0 l, h))

pub all_end : (test : ℕ → Bool) (w : List ℕ) (k : ℕ) → length w ≤ k → all test w ≡ all test (drop k w) → true ≡ all test w
unfolding all
all_end test w k l e = sym (e ∙ rw (drop_of_length-le w l))

pub any_more : (test : ℕ → Bool) (w : List ℕ) (k : ℕ) → k < length w → test (get_or w k 0) ≡ false → any test w ≡ any test (drop k w) → any test w ≡ any test (drop (k + 1) w)
unfolding any
any_more test w k l h e = e ∙ rw (drop-cons w k 0 l, h, add-one)

pub any_here : (test : ℕ → Bool) (w : List ℕ) (k : ℕ) → k < length w → test (get_or w k 0) ≡ true → any test w ≡ any test (drop k w) → true ≡ any test w
unfolding any
any_here test w k l h e = sym (e ∙ rw (drop-cons w k 0 l, h))

pub any_end : (test : ℕ → Bool) (w : List ℕ) (k : ℕ) → length w ≤ k → any test w ≡ any test (drop k w) → false ≡ any test w
unfolding any
any_end test w k l e = sym (e ∙ rw (drop_of_length-le w l))

pub not_a_name : (w : List ℕ) → length w ≡ 0 → false ≡ is_name w
unfolding is_name any all
not_a_name [] h = refl
not_a_name (b ∷ w) h = absurd (omega arith)

-- Runs.
pub run_more : (bs : List ℕ) (n k : ℕ) → k < n → k < length bs → is_name_byte (get_or bs k 0) ≡ true → name_run n bs ≡ k + name_run (n - k) (drop k bs) →
    name_run n bs ≡ (k + 1) + name_run (n - (k + 1)) (drop (k + 1) bs)
unfolding name_run
run_more bs n k l m h e =
    let z : n - k ≡ suc (n - (k + 1)) = omega arith in
    e ∙ rw (z, drop-cons bs k 0 m, h, add-one) (omega arith)

pub run_other : (bs : List ℕ) (n k : ℕ) → k < n → k < length bs → is_name_byte (get_or bs k 0) ≡ false → name_run n bs ≡ k + name_run (n - k) (drop k bs) → k ≡ name_run n bs
unfolding name_run
run_other bs n k l m h e =
    let z : n - k ≡ suc (n - (k + 1)) = omega arith in
    sym (e ∙ rw (z, drop-cons bs k 0 m, h) (omega arith))

pub run_short : (bs : List ℕ) (n k : ℕ) → k < n → length bs ≤ k → name_run n bs ≡ k + name_run (n - k) (drop k bs) → k ≡ name_run n bs
unfolding name_run
run_short bs n k l m e =
    let z : n - k ≡ suc (n - (k + 1)) = omega arith in
    sym (e ∙ rw (z, drop_of_length-le bs m) (omega arith))

pub run_end : (bs : List ℕ) (n k : ℕ) → n ≤ k → name_run n bs ≡ k + name_run (n - k) (drop k bs) → k ≡ name_run n bs
unfolding name_run
run_end bs n k l e =
    let z : n - k ≡ 0 = omega arith in
    sym (e ∙ rw z (omega arith))

-- One byte more.
all_snoc : (test : ℕ → Bool) (u : List ℕ) (b : ℕ) → all test u ≡ true → all test (u ++ b ∷ []) ≡ test b
unfolding all
all_snoc test [] b h = and-true (test b)
all_snoc test (a ∷ u) b h = by (test a) h (all_snoc test u b)
  where
    by : (t : Bool) → t && all test u ≡ true → (all test u ≡ true → all test (u ++ b ∷ []) ≡ test b) → t && all test (u ++ b ∷ []) ≡ test b
    by true h f = f h
    by false h f = apart h refl

first_snoc : (u : List ℕ) (b : ℕ) (bs : List ℕ) → get_or (u ++ b ∷ []) 0 0 ≡ get_or (u ++ b ∷ bs) 0 0
first_snoc [] b bs = refl
first_snoc (a ∷ u) b bs = refl

-- a part of a test that fails
third_fails : (a b c : Bool) → c ≡ false → a && b && c ≡ false
third_fails true true c h = h
third_fails true false c h = refl
third_fails false b c h = refl

fifth_fails : (a b c d e f : Bool) → e ≡ false → a && b && c && d && e && f ≡ false
fifth_fails true true true true e f h = rw h
fifth_fails true true true false e f h = refl
fifth_fails true true false d e f h = refl
fifth_fails true false c d e f h = refl
fifth_fails false b c d e f h = refl

-- below 30 bytes, those that a name may have; the 30th makes it a name; and there is no 31st
begins_more : (u : List ℕ) (b : ℕ) → all is_name_byte u ≡ true → is_hyphen (get_or (u ++ b ∷ []) 0 0) ≡ false → length u ≤ 28 → begins_name (u ++ b ∷ []) ≡ is_name_byte b
unfolding begins_name is_name
begins_more u b h f l = by (is_name_byte b) refl
  where
    short : leb (length (u ++ b ∷ [])) 29 ≡ true
    short = let k : length (u ++ b ∷ []) ≤ 29 = omega (arith, length-append u (b ∷ [])) in leb_so k

    by : (t : Bool) → is_name_byte b ≡ t → begins_name (u ++ b ∷ []) ≡ t
    by true e = rw (all_snoc is_name_byte u b h, e, f, short)
    by false e = rw (all_snoc is_name_byte u b h, e)

begins_last : (u : List ℕ) (b : ℕ) → length u ≡ 29 → begins_name (u ++ b ∷ []) ≡ is_name (u ++ b ∷ [])
unfolding begins_name
begins_last u b l =
    ap (λ (t : Bool). t || is_name (u ++ b ∷ []))
    (third_fails (all is_name_byte (u ++ b ∷ [])) (not (is_hyphen (get_or (u ++ b ∷ []) 0 0))) (leb (length (u ++ b ∷ [])) 29)
    (leb_no (length (u ++ b ∷ [])) 29 (omega (arith, length-append u (b ∷ [])))))

too_long : (w : List ℕ) → 30 < length w → begins_name w ≡ false
unfolding begins_name is_name
too_long w l =
    ap (λ (t : Bool). t || is_name w)
    (third_fails (all is_name_byte w) (not (is_hyphen (get_or w 0 0))) (leb (length w) 29) (leb_no (length w) 29 (omega arith)))
    ∙ fifth_fails (all is_name_byte w) (not (is_hyphen (get_or w 0 0))) (not (is_hyphen (get_or w (length w - 1) 0))) (any is_letter w) (leb (length w) 30) (not (within w keywords))
    (leb_no (length w) 30 l)

ltb_suc : (a b : ℕ) → ltb (suc a) (suc b) ≡ ltb a b
ltb_suc a b = by (ltb a b) refl
  where
    by : (t : Bool) → ltb a b ≡ t → ltb (suc a) (suc b) ≡ t
    by true e = lt-ltb (suc a) (suc b) (omega (arith, ltb-true a b e))
    by false e = le-ltb (suc a) (suc b) (omega (arith, ltb-false a b e))

-- where the word u has room for n bytes more below 30
abbrev goes_to : List ℕ → ℕ → ℕ → List ℕ → ℕ
goes_to u n m bs = cond (eqb m n && (ltb n (length bs) && is_name (u ++ take (suc n) bs))) (suc m) m

reach-run : (n : ℕ) (u bs : List ℕ) → length u + n ≡ 29 → all is_name_byte u ≡ true → is_hyphen (get_or (u ++ bs) 0 0) ≡ false → reach begins_name u bs ≡ goes_to u n (name_run n bs) bs
unfolding reach name_run
reach-run zero u [] l h f = refl
reach-run zero u (b ∷ bs) l h f = rw (begins_last u b (omega arith), lt-ltb 0 (suc (length bs)) (omega arith)) (by (is_name (u ++ b ∷ [])) (stops bs))
  where
    stops : (bs : List ℕ) → reach begins_name (u ++ b ∷ []) bs ≡ 0
    stops [] = refl
    stops (c ∷ bs) = rw (too_long ((u ++ b ∷ []) ++ c ∷ []) (omega (arith, length-append (u ++ b ∷ []) (c ∷ []), length-append u (b ∷ []))))

    by : (t : Bool) → reach begins_name (u ++ b ∷ []) bs ≡ 0 → cond t (suc (reach begins_name (u ++ b ∷ []) bs)) 0 ≡ cond t 1 0
    by true e = ap suc e
    by false e = refl
reach-run (suc n) u [] l h f = rw (eqb_no 0 (suc n) (λ e. omega arith))
reach-run (suc n) u (b ∷ bs) l h f =
    rw (begins_more u b h (rw (first_snoc u b bs) f) (omega arith))
    (by (is_name_byte b) refl (λ e. reach-run n (u ++ b ∷ []) bs (omega (arith, length-append u (b ∷ []))) (rw (all_snoc is_name_byte u b h) e) (rw (append_snoc u b bs) f)))
  where
    one_more : (t : Bool) (m : ℕ) → suc (cond t (suc m) m) ≡ cond t (suc (suc m)) (suc m)
    one_more true m = refl
    one_more false m = refl

    by : (t : Bool) → is_name_byte b ≡ t → (is_name_byte b ≡ true → reach begins_name (u ++ b ∷ []) bs ≡ goes_to (u ++ b ∷ []) n (name_run n bs) bs) →
        cond t (suc (reach begins_name (u ++ b ∷ []) bs)) 0 ≡ goes_to u (suc n) (cond t (suc (name_run n bs)) 0) (b ∷ bs)
    by true e g =
        rw (g e, eqb_suc (name_run n bs) n, ltb_suc n (length bs), append_snoc u b (take (suc n) bs))
        (one_more (eqb (name_run n bs) n && (ltb n (length bs) && is_name (u ++ b ∷ take (suc n) bs))) (name_run n bs))
    by false e g = rw (eqb_no 0 (suc n) (λ e. omega arith))

-- a hyphen begins no name
hyphen_first : (bs : List ℕ) → is_hyphen (get_or bs 0 0) ≡ true → reach begins_name [] bs ≡ 0
unfolding reach begins_name is_name all any within same
hyphen_first [] h = refl
hyphen_first (b ∷ bs) h = rw (eqb-true b 0x2d h)

pub reach_hyphen : (bs : List ℕ) → get_or bs 0 0 ≡ 0x2d → 0 ≡ reach begins_name [] bs
reach_hyphen bs e = sym (hyphen_first bs (rw e))

pub reach_none : (bs : List ℕ) → length bs ≡ 0 → 0 ≡ reach begins_name [] bs
unfolding reach
reach_none [] l = refl
reach_none (b ∷ bs) l = absurd (omega arith)

module _ (bs : List ℕ) (m : ℕ) (e : m ≡ name_run 29 bs) (f : ¬ (get_or bs 0 0 ≡ 0x2d)) where
  runs : reach begins_name [] bs ≡ goes_to [] 29 m bs
  unfolding all
  runs = reach-run 29 [] bs refl refl (eqb_no (get_or bs 0 0) 0x2d f) ∙ rw e

  pub reach_short : ¬ (m ≡ 29) → m ≡ reach begins_name [] bs
  reach_short h = sym (runs ∙ rw (eqb_no m 29 h))

  pub reach_29 : m ≡ 29 → length bs ≤ 29 → 29 ≡ reach begins_name [] bs
  reach_29 h l = sym (runs ∙ rw (h, le-ltb 29 (length bs) l))

  pub reach_whole : m ≡ 29 → 29 < length bs → is_name (take 30 bs) ≡ true → 30 ≡ reach begins_name [] bs
  reach_whole h l t = sym (runs ∙ rw (h, lt-ltb 29 (length bs) l, t))

  pub reach_not : m ≡ 29 → 29 < length bs → is_name (take 30 bs) ≡ false → 29 ≡ reach begins_name [] bs
  reach_not h l t = sym (runs ∙ rw (h, lt-ltb 29 (length bs) l, t))

pub no_byte : (text : List ℕ) (k : ℕ) → length text ≤ k → false ≡ is_period text k
no_byte text k l = rw (get_or-eq_default text 0 l)

-- A name after a blank.
pub name_none : (l : ℕ) (text : List ℕ) (n p : ℕ) → p ≡ inked text n → p ≡ n → Err n ≡ name_at l text n
name_none l text n p e h = let i : inked text n ≡ n = sym e ∙ h in rw (i, eqb_same n)

-- and of a level 88 entry
pub label_none : (text : List ℕ) (n p : ℕ) → p ≡ inked text n → p ≡ n → Err n ≡ label_at text n
label_none text n p e h = let i : inked text n ≡ n = sym e ∙ h in rw (i, eqb_same n)

module _ (text : List ℕ) (n p m : ℕ) (e : p ≡ inked text n) (g : m ≡ reach begins_name [] (take (length text - p) (drop p text))) where
  reaches : m ≡ name_reach text p
  reaches = g ∙ ap (reach begins_name []) (part_from text p)

  pub name_within : n ≤ length text → p + m ≤ length text
  name_within h = omega (arith, reaches, ink_within text n p e h, reach_le begins_name [] (drop p text), length-drop p text)

  part_is : take ((p + m) - p) (drop p text) ≡ take m (drop p text)
  part_is = let y : (p + m) - p ≡ m = omega arith in rw y

  module _ (f : ¬ (p ≡ n)) (t : Bool) where
    pub name_is : (l : ℕ) (s : Bool) → is_called (take ((p + m) - p) (drop p text)) ≡ t → is_period text (p + m) && leb l 48 ≡ s →
        cond t (cond s (Ok (Called.Group (p + m + 1))) (Ok (Called.Item (p + m)))) (Err (p + m)) ≡ name_at l text n
    name_is l s h k = let i : is_called (take m (drop p text)) ≡ t = rw part_is at h in rw (← e, eqb_no p n f, ← reaches, i, k)

    pub label_is : is_name (take ((p + m) - p) (drop p text)) ≡ t → cond t (Ok (p + m)) (Err (p + m)) ≡ label_at text n
    label_is h = let i : is_name (take m (drop p text)) ≡ t = rw part_is at h in rw (← e, eqb_no p n f, ← reaches, i)
