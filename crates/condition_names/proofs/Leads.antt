-- A value, read as specs/Values.antt says, is what the reader takes there.
use mathlib.Core.Path.{◌≡◌, refl, sym, ap, subst, ◌∙◌}
use mathlib.Core.Logic.{◌⊎◌, inl, inr}
use mathlib.Core.Bool.{Bool, true, false, cond, ◌&&◌, ◌||◌}
use mathlib.Core.Option.{Option, none, some}
use mathlib.Core.List.{List, [], ◌∷◌, ◌++◌}
use Prim.Native.Nat.{ℕ, zero, suc, ◌+◌, ◌-◌, ◌≤◌, ◌<◌}
use native.Mathlib.Omega.{arith}
use borrow.Author.Tests.{eqb-true, eqb-false, ltb-true, ltb-false}
use lib.Dec.{eqb, ltb}
use lib.ListN.{length, get_or, take, drop, length-append, length-drop, get_or-eq_default}
use lib.Seq.{take-take, length-take-le, take-append_seam}
use Rattle.description.specs.Machine.{bind, after}
use Rattle.description.specs.Grammar.{bytes, ended, Literal, Value, single, range}
use Rattle.description.specs.Reader.{is_some, given, unended, unspelt, spelling, read_literal, Naming, values, labelled, Reading, faulty}
use Rattle.description.specs.Stages.{inked, blanks, reach, common, joined, is_period, literal_at, literal_reach, is_literal, is_ended, spelled, spelled_from, spelled_at, literal_in}
use Rattle.description.specs.declared.Spelled.{Spelled}
use Rattle.description.specs.declared.Spelled.TheVariants as Spelled
use Rattle.description.proofs.Bytes.{apart, eqb_no, is_some_lem, given-some, bind-some, unended_is}
use Rattle.description.proofs.Stages.{reach_le}
use Rattle.description.proofs.Phases.{on_reached}
use Rattle.text_bytes.proofs.Laws.{inked_le}
use Rattle.wanted_words.proofs.Laws.{common_le}
use Rattle.description.proofs.Valued.{on_value, on_high, literal-leads_on, thru-leads, high_leads}
use Rattle.condition_names.specs.Values.{alone, ranging, high_read, high_at, thru_read, thru_at, low_read, value_at, value_of, Stands}
use Rattle.condition_names.specs.declared.Found.{Found}
use Rattle.condition_names.specs.declared.ValueRead.{ValueRead}
use Rattle.condition_names.specs.declared.ValueRead.TheVariants as ValueRead
use Rattle.std.specs.Prelude.{Err, Ok, Result}

-- what a value leads to
abbrev pub on_read : List ℕ → Naming → ℕ → List Value → Result ValueRead ℕ → Reading
on_read text h n vs (Ok (ValueRead.Open f e)) = joined text e (values h n (vs ++ value_of text f ∷ []) none)
on_read text h n vs (Ok (ValueRead.Ended f e)) = joined text e (labelled h n (vs ++ value_of text f ∷ []))
on_read text h n vs (Err k) = faulty h.earlier k

module _ (text : List ℕ) (h : Naming) (n : ℕ) (vs : List Value) where
  after_high : (p k q : ℕ) (x : Result Spelled ℕ) → on_high text h n vs (literal_in text p k) q x ≡ on_read text h n vs (high_read p k q x)
  after_high p k q (Ok (Spelled.Open e)) = refl
  after_high p k q (Ok (Spelled.Ended e)) = refl
  after_high p k q (Err e) = refl

  after-thru : (p k : ℕ) (x : Result ℕ ℕ) →
      on_reached text (values h n vs (some (literal_in text p k))) (Rattle.description.specs.Reader.high h n vs (literal_in text p k)) x ≡ on_read text h n vs (thru_read text p k x)
  after-thru p k (Ok m) = high_leads text m h n vs (literal_in text p k) ∙ after_high p k (inked text m) (spelled_at text m)
  after-thru p k (Err m) = refl

  after_low : (p : ℕ) (x : Result Spelled ℕ) → on_value text h n vs p x ≡ on_read text h n vs (low_read text p x)
  after_low p (Ok (Spelled.Open k)) = by (eqb (get_or text (inked text k) 0) 0x54) refl
    where
      by : (t : Bool) → eqb (get_or text (inked text k) 0) 0x54 ≡ t →
          joined text k (values h n vs (some (literal_in text p k))) ≡ on_read text h n vs (cond t (thru_at text p k) (Ok (ValueRead.Open (alone p k) k)))
      by true e =
          thru-leads text k h n vs (literal_in text p k) (eqb-true (get_or text (inked text k) 0) 0x54 e) ∙ after-thru p k (literal_at (bytes "THRU") text k)
      by false e =
          literal-leads_on text k h n vs (some (literal_in text p k)) (inr e)
          ∙ sym (literal-leads_on text k h n (vs ++ single (literal_in text p k) ∷ []) none (inl refl))
  after_low p (Ok (Spelled.Ended k)) = refl
  after_low p (Err k) = refl

  pub value-leads_on : (e : ℕ) → joined text e (values h n vs none) ≡ on_read text h n vs (value_at text e)
  value-leads_on e = literal-leads_on text e h n vs none (inl refl) ∙ after_low (inked text e) (spelled_at text e)

-- A word that was asked for ends within the text.
inked_from : (text : List ℕ) (n : ℕ) → n ≤ inked text n
inked_from text n = omega arith

pub word-within : (word text : List ℕ) (n m : ℕ) → n ≤ length text → literal_at word text n ≡ Ok m → (n ≤ m) × (m ≤ length text)
word-within word text n m l e = by (eqb (inked text n) n) (eqb (common word (drop (inked text n) text)) (length word)) e
  where
    by : (a b : Bool) →
        cond a (Err n) (cond b (Ok (inked text n + common word (drop (inked text n) text)))
        (Err (inked text n + common word (drop (inked text n) text)))) ≡ Ok m →
        (n ≤ m) × (m ≤ length text)
    by true b e = let z : ◌≡◌ {A = ℕ} 0 1 = cc in absurd (omega arith)
    by false true e =
        let z : inked text n + common word (drop (inked text n) text) ≡ m = cc in (
          omega (arith, inked_from text n, z),
          omega (arith, inked_le text n l, common_le word (drop (inked text n) text), length-drop (inked text n) text, z),
        )
    by false false e = let z : ◌≡◌ {A = ℕ} 0 1 = cc in absurd (omega arith)

-- Where a literal stands.
pub record Lies (text : List ℕ) (n p k : ℕ) : Type 0 where
  pub past : n < p
  pub starts : p ≤ k
  pub ends : k ≤ length text
  pub whole : is_literal (take (k - p) (drop p text)) ≡ true

period_there : (text : List ℕ) (k : ℕ) → is_period text k ≡ true → k < length text
period_there text k h = by (ltb k (length text)) refl
  where
    by : (t : Bool) → ltb k (length text) ≡ t → k < length text
    by true e = ltb-true k (length text) e
    by false e = apart h (rw (get_or-eq_default text 0 (ltb-false k (length text) e)))

module _ (text : List ℕ) (n : ℕ) (l : n ≤ length text) where
  abbrev at : ℕ
  at = inked text n

  abbrev far : ℕ
  far = literal_reach text (inked text n)

  abbrev word : List ℕ
  word = take (literal_reach text (inked text n)) (drop (inked text n) text)

  inside : at + far ≤ length text
  inside = omega (arith, inked_le text n l, reach_le (λ u. is_some (after spelling unspelt u)) [] (drop (inked text n) text), length-drop (inked text n) text)

  whole_lies : ¬ (at ≡ n) → is_literal word ≡ true → Lies text n at (at + far)
  whole_lies d h =
      let z : at + far - at ≡ far = omega arith in
      record { past = omega (arith, inked_from text n); starts = omega arith; ends = inside; whole = rw z h }

  point_lies : ¬ (at ≡ n) → is_ended word ≡ true → Lies text n at (at + far - 1) × (at + far - 1 + 1 ≤ length text)
  point_lies d h =
      let a = is_some_lem (bind (unended word) (λ v. given (is_literal v) v)) h in
      let b = bind-some (unended word) (λ v. given (is_literal v) v) a.0 a.1 in
      let v = b.0 in
      let g = given-some (is_literal v) v a.0 b.2 in
      let w : word ≡ ended v = unended_is word v b.1 in
      let i : far ≡ length v + 1 = omega (
        arith,
        length-take-le far (drop (inked text n) text) (reach_le (λ u. is_some (after spelling unspelt u)) [] (drop (inked text n) text)),
        ap length w,
        length-append v (0x2e ∷ []),
      ) in
      let z : at + far - 1 - at ≡ length v = omega (arith, i) in
      let t : take (at + far - 1 - at) (drop (inked text n) text) ≡ v =
      rw z (sym (take-take (length v) far (drop (inked text n) text) (omega (arith, i))) ∙ ap (take (length v)) w ∙ take-append_seam v (0x2e ∷ [])) in (
        record { past = omega (arith, inked_from text n); starts = omega (arith, i); ends = omega (arith, inside); whole = rw t g.0 },
        omega (arith, inside, i),
      )

  -- what a literal that was read says
  pub literal_open : (k : ℕ) → spelled_at text n ≡ Ok (Spelled.Open k) → Lies text n (inked text n) k
  literal_open k e = by (eqb at n) refl (is_literal word) refl (is_period text (at + far)) (is_ended word) e
    where
      by : (a : Bool) → eqb at n ≡ a → (b : Bool) → is_literal word ≡ b → (c d : Bool) → cond a (Err n) (spelled (at + far) b c d) ≡ Ok (Spelled.Open k) → Lies text n (inked text n) k
      by true i b j c d e = let z : ◌≡◌ {A = ℕ} 0 1 = cc in absurd (omega arith)
      by false i true j true d e = let z : ◌≡◌ {A = ℕ} 0 1 = cc in absurd (omega arith)
      by false i true j false d e = let z : at + far ≡ k = cc in rw z at (whole_lies (eqb-false at n i) j)
      by false i false j c true e = let z : ◌≡◌ {A = ℕ} 0 1 = cc in absurd (omega arith)
      by false i false j c false e = let z : ◌≡◌ {A = ℕ} 0 1 = cc in absurd (omega arith)

  pub literal-ended : (k : ℕ) → spelled_at text n ≡ Ok (Spelled.Ended k) → Lies text n (inked text n) k × (k + 1 ≤ length text)
  literal-ended k e = by (eqb at n) refl (is_literal word) refl (is_period text (at + far)) refl (is_ended word) refl e
    where
      by : (a : Bool) → eqb at n ≡ a → (b : Bool) → is_literal word ≡ b → (c : Bool) → is_period text (at + far) ≡ c → (d : Bool) → is_ended word ≡ d →
          cond a (Err n) (spelled (at + far) b c d) ≡ Ok (Spelled.Ended k) → Lies text n (inked text n) k × (k + 1 ≤ length text)
      by true i b j c x d y e = let z : ◌≡◌ {A = ℕ} 0 1 = cc in absurd (omega arith)
      by false i true j true x d y e =
          let z : at + far ≡ k = cc in
          (rw z at (whole_lies (eqb-false at n i) j), omega (arith, period_there text (at + far) x, z))
      by false i true j false x d y e = let z : ◌≡◌ {A = ℕ} 0 1 = cc in absurd (omega arith)
      by false i false j c x true y e = let z : at + far - 1 ≡ k = cc in rw z at (point_lies (eqb-false at n i) y)
      by false i false j c x false y e = let z : ◌≡◌ {A = ℕ} 0 1 = cc in absurd (omega arith)

stands_alone : (text : List ℕ) (n p k : ℕ) → Lies text n p k → Stands text (alone p k)
stands_alone text n p k i = record { starts = i.starts; middle = i.ends; low = i.whole; goes = i.starts; ends = i.ends; high = i.whole }

stands_ranging : (text : List ℕ) (n m p k q e : ℕ) → Lies text n p k → Lies text m q e → Stands text (ranging p k q e)
stands_ranging text n m p k q e i j = record { starts = i.starts; middle = i.ends; low = i.whole; goes = j.starts; ends = j.ends; high = j.whole }

-- What a value that was read says: its ends stand there, and it goes on.
abbrev pub Goes : List ℕ → ℕ → Result ValueRead ℕ → Type 0
Goes text n (Ok (ValueRead.Open f e)) = Stands text f × (n < e) × (e ≤ length text)
Goes text n (Ok (ValueRead.Ended f e)) = Stands text f × (n < e) × (e ≤ length text)
Goes text n (Err k) = Unit {0}

high_goes : (text : List ℕ) (n p k m : ℕ) → Lies text n p k → k ≤ m → m ≤ length text → (x : Result Spelled ℕ) → spelled_at text m ≡ x → Goes text n (high_read p k (inked text m) x)
high_goes text n p k m i a b (Ok (Spelled.Open e)) f =
    let j = literal_open text m b e f in
    (stands_ranging text n m p k (inked text m) e i j, omega (arith, j.past, j.starts, i.past, i.starts), j.ends)
high_goes text n p k m i a b (Ok (Spelled.Ended e)) f =
    let j = literal-ended text m b e f in
    (stands_ranging text n m p k (inked text m) e i j.0, omega (arith, j.0.past, j.0.starts, i.past, i.starts), j.1)
high_goes text n p k m i a b (Err e) f = tt

thru_goes : (text : List ℕ) (n p k : ℕ) → Lies text n p k → (x : Result ℕ ℕ) → literal_at (bytes "THRU") text k ≡ x → Goes text n (thru_read text p k x)
thru_goes text n p k i (Ok m) f =
    let j = word-within (bytes "THRU") text k m i.ends f in
    high_goes text n p k m i j.0 j.1 (spelled_at text m) refl
thru_goes text n p k i (Err m) f = tt

pub value_goes : (text : List ℕ) (n : ℕ) → n ≤ length text → Goes text n (value_at text n)
value_goes text n l = by (spelled_at text n) refl
  where
    by : (x : Result Spelled ℕ) → spelled_at text n ≡ x → Goes text n (low_read text (inked text n) x)
    by (Ok (Spelled.Open k)) e = go (eqb (get_or text (inked text k) 0) 0x54)
      where
        i : Lies text n (inked text n) k
        i = literal_open text n l k e

        go : (t : Bool) → Goes text n (cond t (thru_at text (inked text n) k) (Ok (ValueRead.Open (alone (inked text n) k) k)))
        go true = thru_goes text n (inked text n) k i (literal_at (bytes "THRU") text k) refl
        go false = (stands_alone text n (inked text n) k i, omega (arith, i.past, i.starts), i.ends)
    by (Ok (Spelled.Ended k)) e = let i = literal-ended text n l k e in (stands_alone text n (inked text n) k i.0, omega (arith, i.0.past, i.0.starts), i.1)
    by (Err k) e = tt

-- whether THRU follows
pub taken : (text : List ℕ) (p k : ℕ) → get_or text (inked text k) 0 ≡ 0x54 → thru_at text p k ≡ low_read text p (Ok (Spelled.Open k))
taken text p k e = rw e

pub left : (text : List ℕ) (p k : ℕ) → ¬ (get_or text (inked text k) 0 ≡ 0x54) → Ok (ValueRead.Open (alone p k) k) ≡ low_read text p (Ok (Spelled.Open k))
left text p k e = rw (eqb_no (get_or text (inked text k) 0) 0x54 e)
