-- The numbers that the code goes by are the shapes of the reader's states.
use mathlib.Core.Path.{◌≡◌, refl, sym, ap, subst, ◌∙◌}
use mathlib.Core.Bool.{Bool, true, false, cond, ◌&&◌, ◌||◌, and-false}
use mathlib.Core.Option.{Option, none, some}
use mathlib.Core.List.{List, [], ◌∷◌, ◌++◌, append-nil}
use Prim.Native.Nat.{ℕ, zero, suc, ◌+◌, ◌-◌, ◌≤◌, ◌<◌}
use native.Mathlib.Omega.{arith}
use native.Mathlib.Numerals.{add-one}
use borrow.Author.Tests.{eqb-true, eqb-false, leb-true, lt-ltb}
use lib.Dec.{eqb, leb, ltb}
use lib.ListN.{length, get_or, take, drop, length-drop}
use lib.Seq.{append_snoc, drop-cons}
use Rattle.description.specs.Machine.{bind, after, result}
use Rattle.description.specs.Grammar.{is_digit, is_sign, ended, Literal}
use Rattle.description.specs.Reader.{is_some, given, unended, ended_by, Spelt, unspelt, before, beyond, quoting, shut, spell, spell_number, spelt, spelling, read_literal}
use Rattle.description.specs.Stages.{inked, reach, is_period, literal_reach, is_literal, is_ended, spelled, spelled_from, spelled_at}
use Rattle.description.specs.declared.Spelled.{Spelled}
use Rattle.description.specs.declared.Spelled.TheVariants as Spelled
use Rattle.description.proofs.Bytes.{apart, eqb_same, eqb_no, given-some}
use Rattle.description.proofs.Literals.{after-append}
use Rattle.description.proofs.Ended.{ended_snoc}
use Rattle.description.proofs.Stages.{reach_le}
use Rattle.text_bytes.proofs.Laws.{part_from}
use Rattle.literal_spans.specs.Steps.{is_quote, point_step, first_step, digit_step, step, spelled_far, spelled_state, whole_state}
use Rattle.std.specs.Prelude.{Ok, Err}

abbrev shape : Spelt → ℕ
shape unspelt = 0
shape (before s []) = 1
shape (before s (b ∷ ds)) = 2
shape (beyond s [] []) = 4
shape (beyond s (b ∷ us) []) = 3
shape (beyond s us (b ∷ vs)) = 5
shape (quoting bs) = 6
shape (shut bs) = 7

abbrev shape_of : Option Spelt → ℕ
shape_of none = 8
shape_of (some d) = shape d

shape_8 : (d : Spelt) → eqb (shape d) 8 ≡ false
shape_8 unspelt = refl
shape_8 (before s []) = refl
shape_8 (before s (b ∷ ds)) = refl
shape_8 (beyond s [] []) = refl
shape_8 (beyond s (b ∷ us) []) = refl
shape_8 (beyond s [] (b ∷ vs)) = refl
shape_8 (beyond s (c ∷ us) (b ∷ vs)) = refl
shape_8 (quoting bs) = refl
shape_8 (shut bs) = refl

before_more : (s ds : List ℕ) (b : ℕ) → shape (before s (ds ++ b ∷ [])) ≡ 2
before_more s [] b = refl
before_more s (d ∷ ds) b = refl

beyond_more : (s us vs : List ℕ) (b : ℕ) → shape (beyond s us (vs ++ b ∷ [])) ≡ 5
beyond_more s [] [] b = refl
beyond_more s (u ∷ us) [] b = refl
beyond_more s [] (v ∷ vs) b = refl
beyond_more s (u ∷ us) (v ∷ vs) b = refl

-- A digit is no sign and no quote.
digit_no : (b c : ℕ) → is_digit b ≡ true → is_digit c ≡ false → eqb b c ≡ false
digit_no b c h k = eqb_no b c (λ e. apart h (rw e k))

number_step : (s ds : List ℕ) (b : ℕ) → (t u : Bool) → is_digit b ≡ t → eqb b 0x2e ≡ u →
    shape_of (cond t (some (before s (ds ++ b ∷ []))) (given u (beyond s ds []))) ≡ cond t 2 (cond u (shape (beyond s ds [])) 8)
number_step s ds b true u h k = before_more s ds b
number_step s ds b false true h k = refl
number_step s ds b false false h k = refl

beyond_step : (s us vs : List ℕ) (b : ℕ) (t : Bool) → is_digit b ≡ t → shape_of (given t (beyond s us (vs ++ b ∷ []))) ≡ cond t 5 8
beyond_step s us vs b true h = beyond_more s us vs b
beyond_step s us vs b false h = refl

-- after a point no other point follows
dead : (t : Bool) (n : ℕ) → cond t n n ≡ n
dead true n = refl
dead false n = refl

first_step_lem : (b : ℕ) (t u s q : Bool) → is_digit b ≡ t → eqb b 0x2e ≡ u → is_sign b ≡ s → eqb b 0x22 ≡ q →
    shape_of (cond s (some (before (b ∷ []) [])) (cond q (some (quoting [])) (cond t (some (before [] (b ∷ []))) (given u (beyond [] [] [])))))
    ≡ cond t 2 (cond u 4 (cond s 1 (cond q 6 8)))
first_step_lem b true u true q h i j k = apart j (rw (digit_no b 0x2b h refl, digit_no b 0x2d h refl))
first_step_lem b true u false true h i j k = apart k (digit_no b 0x22 h refl)
first_step_lem b true u false false h i j k = refl
first_step_lem b false true true q h i j k = apart j (rw (eqb-true b 0x2e i))
first_step_lem b false true false true h i j k = apart k (rw (eqb-true b 0x2e i))
first_step_lem b false true false false h i j k = refl
first_step_lem b false false true q h i j k = refl
first_step_lem b false false false true h i j k = refl
first_step_lem b false false false false h i j k = refl

quote_step : (bs : List ℕ) (b : ℕ) (t : Bool) → shape_of (cond t (some (shut bs)) (some (quoting (bs ++ b ∷ [])))) ≡ cond t 7 6
quote_step bs b true = refl
quote_step bs b false = refl

shut_step : (bs : List ℕ) (t : Bool) → shape_of (given t (quoting bs)) ≡ cond t 6 8
shut_step bs true = refl
shut_step bs false = refl

pub step_is : (d : Spelt) (b : ℕ) → shape_of (spell d b) ≡ step (shape d) b
unfolding step
step_is unspelt b = first_step_lem b (is_digit b) (eqb b 0x2e) (is_sign b) (eqb b 0x22) refl refl refl refl
step_is (before s []) b = number_step s [] b (is_digit b) (eqb b 0x2e) refl refl
step_is (before s (c ∷ ds)) b = number_step s (c ∷ ds) b (is_digit b) (eqb b 0x2e) refl refl
step_is (beyond s [] []) b = beyond_step s [] [] b (is_digit b) refl ∙ ap (cond (is_digit b) 5) (sym (dead (eqb b 0x2e) 8))
step_is (beyond s (u ∷ us) []) b = beyond_step s (u ∷ us) [] b (is_digit b) refl ∙ ap (cond (is_digit b) 5) (sym (dead (eqb b 0x2e) 8))
step_is (beyond s [] (v ∷ vs)) b = beyond_step s [] (v ∷ vs) b (is_digit b) refl ∙ ap (cond (is_digit b) 5) (sym (dead (eqb b 0x2e) 8))
step_is (beyond s (u ∷ us) (v ∷ vs)) b = beyond_step s (u ∷ us) (v ∷ vs) b (is_digit b) refl ∙ ap (cond (is_digit b) 5) (sym (dead (eqb b 0x2e) 8))
step_is (quoting bs) b = quote_step bs b (eqb b 0x22)
step_is (shut bs) b = shut_step (bs ++ 0x22 ∷ []) (eqb b 0x22)

-- A word is a literal where its shape is that of one.
some-length : (b : ℕ) (w : List ℕ) → ltb 0 (length (b ∷ w)) ≡ true
some-length b w = lt-ltb 0 (suc (length w)) (omega arith)

whole_is : (d : Spelt) → is_some (spelt d) ≡ whole_state (shape d)
whole_is unspelt = refl
whole_is (before s []) = refl
whole_is (before s (b ∷ ds)) = rw (some-length b ds)
whole_is (beyond s [] []) = refl
whole_is (beyond s (b ∷ us) []) = refl
whole_is (beyond s [] (b ∷ vs)) = rw (some-length b vs)
whole_is (beyond s (u ∷ us) (b ∷ vs)) = rw (some-length b vs)
whole_is (quoting bs) = refl
whole_is (shut bs) = refl

-- Digits and a point: the word before the point was a literal.
point_no : (b : ℕ) → is_digit b ≡ true → eqb b 0x2e ≡ false
point_no b h = digit_no b 0x2e h refl

ends-number : (s ds : List ℕ) (b : ℕ) (e : Spelt) → spell_number s ds b ≡ some e → eqb b 0x2e && is_some (spelt (before s ds)) ≡ eqb (shape e) 3
ends-number s ds b e h = by (is_digit b) (eqb b 0x2e) refl refl h
  where
    pointed : (ds : List ℕ) → is_some (spelt (before s ds)) ≡ eqb (shape (beyond s ds [])) 3
    pointed [] = refl
    pointed (d ∷ ds) = rw (some-length d ds)

    by : (t u : Bool) → is_digit b ≡ t → eqb b 0x2e ≡ u → cond t (some (before s (ds ++ b ∷ []))) (given u (beyond s ds [])) ≡ some e →
        u && is_some (spelt (before s ds)) ≡ eqb (shape e) 3
    by true true i j h = apart j (point_no b i)
    by true false i j h = let k : before s (ds ++ b ∷ []) ≡ e = cc in rw (← k, before_more s ds b)
    by false true i j h = let k : beyond s ds [] ≡ e = cc in pointed ds ∙ ap (λ (x : Spelt). eqb (shape x) 3) k
    by false false i j h = let z : ◌≡◌ {A = ℕ} 0 1 = cc in absurd (omega arith)

ends_is : (d e : Spelt) (b : ℕ) → spell d b ≡ some e → eqb b 0x2e && is_some (spelt d) ≡ eqb (shape e) 3
ends_is unspelt e b h = rw (and-false (eqb b 0x2e)) (by (is_sign b) (eqb b 0x22) h)
  where
    number : (t u : Bool) → cond t (some (before [] (b ∷ []))) (given u (beyond [] [] [])) ≡ some e → false ≡ eqb (shape e) 3
    number true u h = let k : before [] (b ∷ []) ≡ e = cc in rw (← k)
    number false true h = let k : beyond [] [] [] ≡ e = cc in rw (← k)
    number false false h = let z : ◌≡◌ {A = ℕ} 0 1 = cc in absurd (omega arith)

    by : (t u : Bool) → cond t (some (before (b ∷ []) [])) (cond u (some (quoting [])) (spell_number [] [] b)) ≡ some e → false ≡ eqb (shape e) 3
    by true u h = let k : before (b ∷ []) [] ≡ e = cc in rw (← k)
    by false true h = let k : quoting [] ≡ e = cc in rw (← k)
    by false false h = number (is_digit b) (eqb b 0x2e) h
ends_is (before s ds) e b h = ends-number s ds b e h
ends_is (beyond s us vs) e b h =
    let k = given-some (is_digit b) (beyond s us (vs ++ b ∷ [])) e h in
    rw (point_no b k.0, ← k.1, beyond_more s us vs b)
ends_is (quoting bs) e b h = rw (and-false (eqb b 0x2e)) (by (eqb b 0x22) h)
  where
    by : (t : Bool) → cond t (some (shut bs)) (some (quoting (bs ++ b ∷ []))) ≡ some e → false ≡ eqb (shape e) 3
    by true h = let k : shut bs ≡ e = cc in rw (← k)
    by false h = let k : quoting (bs ++ b ∷ []) ≡ e = cc in rw (← k)
ends_is (shut bs) e b h =
    let k = given-some (eqb b 0x22) (quoting (bs ++ 0x22 ∷ [])) e h in
    rw (eqb-true b 0x22 k.0, ← k.1)

-- One byte more.
after_one : (u : List ℕ) (b : ℕ) (d : Spelt) → after spelling unspelt u ≡ some d → after spelling unspelt (u ++ b ∷ []) ≡ spell d b
unfolding after
after_one u b d h = after-append spelling unspelt u (b ∷ []) ∙ rw h (by (spell d b))
  where
    by : (o : Option Spelt) → bind o (λ t. some t) ≡ o
    by none = refl
    by (some e) = refl

-- Where the bytes lead that go on: how many, the state after them, and its shape.
pub record Spelt-as (u bs : List ℕ) (s : ℕ) : Type 0 where
  pub far : reach (λ w. is_some (after spelling unspelt w)) u bs ≡ spelled_far s bs
  pub state : Spelt
  pub there : after spelling unspelt (u ++ take (spelled_far s bs) bs) ≡ some state
  pub shaped : shape state ≡ spelled_state s bs
  pub ended : is_ended (u ++ take (spelled_far s bs) bs) ≡ eqb (shape state) 3

goes_from : (u bs : List ℕ) (d : Spelt) → after spelling unspelt u ≡ some d → is_ended u ≡ eqb (shape d) 3 → Spelt-as u bs (shape d)
unfolding reach result spelled_far spelled_state
goes_from u [] d h k = record { far = refl; state = d; there = rw append-nil h; shaped = refl; ended = rw append-nil k }
goes_from u (b ∷ bs) d h k = by (spell d b) refl (λ e i. goes_from (u ++ b ∷ []) bs e (after_one u b d h ∙ i) (last e i))
  where
    last : (e : Spelt) → spell d b ≡ some e → is_ended (u ++ b ∷ []) ≡ eqb (shape e) 3
    last e i = ended_snoc is_literal u b ∙ rw (reads) (ends_is d e b i)
      where
        reads : is_literal u ≡ is_some (spelt d)
        reads = rw h

    by : (o : Option Spelt) → spell d b ≡ o → ((e : Spelt) → spell d b ≡ some e → Spelt-as (u ++ b ∷ []) bs (shape e)) → Spelt-as u (b ∷ bs) (shape d)
    by none i f =
        let j : step (shape d) b ≡ 8 = sym (step_is d b) ∙ ap shape_of i in
        record {
          far = rw (after_one u b d h, i, j);
          state = d;
          there = rw (j, append-nil u) h;
          shaped = rw j;
          ended = rw (j, append-nil u) k;
        }
    by (some e) i f =
        let j : step (shape d) b ≡ shape e = sym (step_is d b) ∙ ap shape_of i in
        let r = f e i in
        record {
          far = rw (after_one u b d h, i, j, shape_8 e) (ap suc r.far);
          state = r.state;
          there = rw (j, shape_8 e) (rw append_snoc at r.there);
          shaped = rw (j, shape_8 e) r.shaped;
          ended = rw (j, shape_8 e) (rw append_snoc at r.ended);
        }

-- From the start of a literal.
pub spelt_as : (bs : List ℕ) → Spelt-as [] bs 0
unfolding after unended
spelt_as bs = goes_from [] bs unspelt refl refl

-- The branches of a literal after a blank.
pub span_none : (text : List ℕ) (n p : ℕ) → p ≡ inked text n → p ≡ n → Err n ≡ spelled_at text n
span_none text n p e h = let i : inked text n ≡ n = sym e ∙ h in rw (i, eqb_same n)

module _ (text : List ℕ) (n p l s : ℕ) (e : p ≡ inked text n) (f : ¬ (p ≡ n)) (g : l ≡ spelled_far 0 (take (length text - p) (drop p text)))
    (h : s ≡ spelled_state 0 (take (length text - p) (drop p text))) where
  abbrev word : Spelt-as [] (drop p text) 0
  word = spelt_as (drop p text)

  far_is : spelled_far 0 (drop p text) ≡ l
  far_is = sym (g ∙ ap (spelled_far 0) (part_from text p))

  long : literal_reach text p ≡ l
  long = word.far ∙ far_is

  shaped : shape word.state ≡ s
  shaped = word.shaped ∙ sym (h ∙ ap (spelled_state 0) (part_from text p))

  whole : is_literal (take l (drop p text)) ≡ whole_state s
  unfolding result
  whole = let i : after spelling unspelt (take l (drop p text)) ≡ some word.state = rw far_is at word.there in rw (i, ← shaped) (whole_is word.state)

  point : is_ended (take l (drop p text)) ≡ eqb s 3
  point = rw (far_is, shaped) at word.ended

  span_is : {a b c : Bool} → whole_state s ≡ a → is_period text (p + l) ≡ b → eqb s 3 ≡ c → spelled_at text n ≡ spelled (p + l) a b c
  span_is i j k = rw (← e, eqb_no p n f, long, whole, point, i, j, k)

  pub span_end : p ≤ length text → p + l ≤ length text
  span_end i = omega (arith, reach_le (λ w. is_some (after spelling unspelt w)) [] (drop p text), length-drop p text, long)

  pub span_ended : whole_state s ≡ true → is_period text (p + l) ≡ true → Ok (Spelled.Ended (p + l)) ≡ spelled_at text n
  span_ended i j = sym (span_is i j refl)

  pub span_open : whole_state s ≡ true → is_period text (p + l) ≡ false → Ok (Spelled.Open (p + l)) ≡ spelled_at text n
  span_open i j = sym (span_is i j refl)

  pub span_point : whole_state s ≡ false → s ≡ 3 → Ok (Spelled.Ended (p + l - 1)) ≡ spelled_at text n
  span_point i k = sym (span_is {c = true} i refl (rw k))

  pub span_fault : whole_state s ≡ false → ¬ (s ≡ 3) → Err (p + l) ≡ spelled_at text n
  span_fault i k = sym (span_is i refl (eqb_no s 3 k))

  -- digits and a point are two bytes at least
  pub span_some : s ≡ 3 → 0 < l
  unfolding spelled_state spelled_far
  span_some k = by (take (length text - p) (drop p text)) (sym h ∙ k) refl
    where
      by : (bs : List ℕ) → spelled_state 0 bs ≡ 3 → bs ≡ take (length text - p) (drop p text) → 0 < l
      by [] i j = let z : ◌≡◌ {A = ℕ} 0 3 = i in absurd (omega arith)
      by (b ∷ bs) i j = go (eqb (step 0 b) 8) refl i
        where
          go : (t : Bool) → eqb (step 0 b) 8 ≡ t → cond t 0 (spelled_state (step 0 b) bs) ≡ 3 → 0 < l
          go true x i = absurd (omega arith)
          go false x i = let y : l ≡ suc (spelled_far (step 0 b) bs) = g ∙ rw (← j, x) in omega arith
