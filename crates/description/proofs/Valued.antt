-- The words of a level 88 entry, read as specs/Stages.antt says, are what the reader takes there.
use mathlib.Core.Path.{◌≡◌, refl, sym, ap, subst, ◌∙◌}
use mathlib.Core.Logic.{◌⊎◌, inl, inr}
use mathlib.Core.Bool.{Bool, true, false, cond, ◌&&◌, ◌||◌, and-false, or-false}
use mathlib.Core.Option.{Option, none, some}
use mathlib.Core.List.{List, [], ◌∷◌, ◌++◌, append-nil}
use Prim.Native.Nat.{ℕ, zero, suc, ◌+◌, ◌-◌, ◌≤◌, ◌<◌}
use native.Mathlib.Omega.{arith}
use borrow.Author.Tests.{eqb-true, eqb-false}
use lib.Dec.{eqb}
use lib.ListN.{length, get_or, take, drop, length-append}
use lib.Seq.{append_snoc, get_or-drop, take-take, length-take-le, take-append_seam}
use Rattle.description.specs.Machine.{bind, after, result}
use Rattle.description.specs.Grammar.{bytes, same, ended, any, all, Literal, literal, Value, single, range}
use Rattle.description.specs.Reader.{is_some, given, or_else, prefix, unended, ended_by, is_name, begins_name, unspelt, spell, spelling, read_literal}
use Rattle.description.specs.Reader.{begins_literal, Naming, State, label, value, values, high, alone, thru, labelled, next, begins, parts_of}
use Rattle.description.specs.Reader.{Reading, faulty}
use Rattle.description.specs.Stages.{inked, reach, joined, name_reach, is_period, literal_at, label_from, label_at, literal_reach, is_literal, is_ended, spelled, spelled_from, spelled_at, literal_in}
use Rattle.description.specs.declared.Spelled.{Spelled}
use Rattle.description.specs.declared.Spelled.TheVariants as Spelled
use Rattle.description.proofs.Machine.{after_lives, after-some}
use Rattle.description.proofs.Bytes.{apart, is_some_lem, unended_is, unended_of}
use Rattle.description.proofs.Literals.{no_literal}
use Rattle.description.proofs.Literals as L
use Rattle.description.proofs.Stages.{Middle, no_word, word-leads, word_reach, leads, reach_le}
use Rattle.description.proofs.Phases.{reach-agree, on_reached, literal-leads, first, or_nothing}
use Rattle.description.proofs.Ended.{Ends, reach-ended, byte_after, with_period}
use Rattle.std.specs.Prelude.{Err, Ok, Result}

-- The name of the entry.
module _ (text : List ℕ) (e : ℕ) (h : Naming) where
  label_middle : Middle (label h)
  unfolding next is_name any all
  label_middle = record { unended = refl; asks = λ p. refl }

  label_decided : (p m : ℕ) (bs : List ℕ) (c : Bool) → is_name (take m bs) ≡ c →
      leads text (next (label h) p (take m bs)) (label h) (p + m) ≡ on_reached text (label h) (value h p) (cond c (Ok (p + m)) (Err (p + m)))
  unfolding next
  label_decided p m bs true i = rw i
  label_decided p m bs false i = rw i

  pub label_leads : joined text e (label h) ≡ on_reached text (label h) (value h (inked text e)) (label_at text e)
  unfolding begins
  label_leads = by (eqb (inked text e) e) refl
    where
      by : (t : Bool) → eqb (inked text e) e ≡ t →
          joined text e (label h) ≡ on_reached text (label h) (value h (inked text e)) (cond t (Err e) (label_from text (inked text e)))
      by true i = no_word text e (label h) label_middle (eqb-true (inked text e) e i)
      by false i =
          word-leads text e (label h) label_middle (eqb-false (inked text e) e i)
          ∙ label_decided (inked text e) (name_reach text (inked text e)) (drop (inked text e) text) (is_name (take (name_reach text (inked text e)) (drop (inked text e) text))) refl

pub value-leads : (text : List ℕ) (e : ℕ) (h : Naming) (n : ℕ) →
    joined text e (value h n) ≡ on_reached text (value h n) (values h n [] none) (literal_at (bytes "VALUE") text e)
unfolding next begins same
value-leads text e h n =
    literal-leads text e (value h n) (values h n [] none) (record { unended = refl; asks = λ p. refl }) (bytes "VALUE") (λ k. refl) (λ k. refl)

-- Literals.
abbrev spells : List ℕ → Bool
spells u = is_some (after spelling unspelt u)

literals_end : Ends spells is_literal
literals_end = record { closed = closed; once = λ u. rw (no_literal u) }
  where
    closed : (u : List ℕ) (c : ℕ) → spells (u ++ c ∷ []) ≡ true → spells u ≡ true
    closed u c h =
        let k = is_some_lem (after spelling unspelt (u ++ c ∷ [])) h in
        let m = after_lives L.right unspelt (u ++ c ∷ []) k.0 tt k.1 in
        rw (after-some L.right unspelt u (c ∷ m.0) m.1 (rw append_snoc at m.2)).1

-- A state that asks for a literal, alone or with its period.
module _ (text : List ℕ) (e : ℕ) (q : State) (M : Middle q) (goes stops : Literal → State) where
  abbrev rest : List ℕ
  rest = drop (inked text e) text

  abbrev on_spelled : ℕ → Result Spelled ℕ → Reading
  on_spelled p (Ok (Spelled.Open k)) = joined text k (goes (literal_in text p k))
  on_spelled p (Ok (Spelled.Ended k)) = joined text (k + 1) (stops (literal_in text p k))
  on_spelled p (Err k) = faulty (parts_of q) k

  abbrev taken : List ℕ → Option State
  taken w = or_else (bind (read_literal w) (λ x. some (goes x))) (bind (unended w) (λ v. bind (read_literal v) (λ x. some (stops x))))

  literal_is : (p m : ℕ) → (x : Literal) → read_literal (take m (drop p text)) ≡ some x → literal_in text p (p + m) ≡ x
  literal_is p m x h = let z : p + m - p ≡ m = omega arith in rw (z, h)

  -- a word that is a literal
  whole : (p m : ℕ) (x : Literal) → read_literal (take m (drop p text)) ≡ some x → (t : Bool) → is_period text (p + m) ≡ t →
      leads text (taken (take (cond (t && true) (suc m) m) (drop p text))) q (p + cond (t && true) (suc m) m)
      ≡ on_spelled p (cond t (Ok (Spelled.Ended (p + m))) (Ok (Spelled.Open (p + m))))
  whole p m x h true i =
      let z : p + suc m ≡ p + m + 1 = omega arith in
      rw (with_period (drop p text) m (rw (byte_after text p m) i), no_literal (take m (drop p text)), unended_of (take m (drop p text)), h, literal_is p m x h, z)
  whole p m x h false i = rw (h, literal_is p m x h)

  -- a word that is none: its point may be the period
  pointed : (p m : ℕ) → m ≤ length (drop p text) → read_literal (take m (drop p text)) ≡ none → (o : Option (List ℕ)) → unended (take m (drop p text)) ≡ o →
      leads text (taken (take m (drop p text))) q (p + m)
      ≡ on_spelled p (cond (is_some (bind o (λ v. given (is_literal v) v))) (Ok (Spelled.Ended (p + m - 1))) (Err (p + m)))
  pointed p m l h none i = rw (h, i)
  pointed p m l h (some v) i = by (read_literal v) refl
    where
      word : take m (drop p text) ≡ ended v
      word = unended_is (take m (drop p text)) v i

      long : m ≡ length v + 1
      long = omega (arith, length-take-le m (drop p text) l, ap length word, length-append v (0x2e ∷ []))

      literal : take (p + m - 1 - p) (drop p text) ≡ v
      literal =
          let z : p + m - 1 - p ≡ length v = omega (arith, long) in
          rw z (sym (take-take (length v) m (drop p text) (omega (arith, long))) ∙ ap (take (length v)) word ∙ take-append_seam v (0x2e ∷ []))

      by : (o : Option Literal) → read_literal v ≡ o →
          leads text (taken (take m (drop p text))) q (p + m)
          ≡ on_spelled p (cond (is_some (given (is_some o) v)) (Ok (Spelled.Ended (p + m - 1))) (Err (p + m)))
      by none j = rw (h, i, j)
      by (some x) j = let z : p + m - 1 + 1 ≡ p + m = omega (arith, long) in rw (h, i, j, literal, z, j)

  decided : (p m : ℕ) → m ≤ length (drop p text) → (o : Option Literal) → read_literal (take m (drop p text)) ≡ o →
      leads text (taken (take (cond (is_period text (p + m) && is_some o) (suc m) m) (drop p text))) q (p + cond (is_period text (p + m) && is_some o) (suc m) m)
      ≡ on_spelled p (spelled (p + m) (is_some o) (is_period text (p + m)) (is_ended (take m (drop p text))))
  decided p m l none h = rw (and-false (is_period text (p + m))) (pointed p m l h (unended (take m (drop p text))) refl)
  decided p m l (some x) h = whole p m x h (is_period text (p + m)) refl

  -- Where no other word may stand.
  pub spelled-leads : ((k : ℕ) → begins q (take (suc k) rest) ≡ begins_literal (take (suc k) rest)) → ((k : ℕ) → next q (inked text e) (take k rest) ≡ taken (take k rest)) →
      joined text e q ≡ on_spelled (inked text e) (spelled_at text e)
  spelled-leads f g = by (eqb (inked text e) e) refl
    where
      reaches : word_reach text e q M ≡ cond (is_period text (inked text e + literal_reach text (inked text e)) && is_literal (take (literal_reach text (inked text e)) rest))
          (suc (literal_reach text (inked text e))) (literal_reach text (inked text e))
      reaches =
          reach-agree (begins q) begins_literal [] rest f ∙ reach-ended spells is_literal literals_end [] rest
          ∙ rw (byte_after text (inked text e) (literal_reach text (inked text e)))

      by : (t : Bool) → eqb (inked text e) e ≡ t → joined text e q ≡ on_spelled (inked text e) (cond t (Err e) (spelled_from text (inked text e)))
      by true h = no_word text e q M (eqb-true (inked text e) e h)
      by false h =
          word-leads text e q M (eqb-false (inked text e) e h)
          ∙ rw reaches
          (ap (λ (o : Option State).
          leads text o q
          (inked text e + cond (is_period text (inked text e + literal_reach text (inked text e)) && is_literal (take (literal_reach text (inked text e)) rest))
          (suc (literal_reach text (inked text e))) (literal_reach text (inked text e))))
          (g (cond (is_period text (inked text e + literal_reach text (inked text e)) && is_literal (take (literal_reach text (inked text e)) rest))
          (suc (literal_reach text (inked text e))) (literal_reach text (inked text e))))
          ∙ decided (inked text e) (literal_reach text (inked text e)) (reach_le spells [] rest) (read_literal (take (literal_reach text (inked text e)) rest)) refl)

-- Values.
module _ (h : Naming) (n : ℕ) (vs : List Value) where
  values_middle : (m : Option Literal) → Middle (values h n vs m)
  unfolding next unended result after same
  values_middle none = record { unended = refl; asks = λ p. refl }
  values_middle (some x) = record { unended = refl; asks = λ p. refl }

  high_middle : (l : Literal) → Middle (high h n vs l)
  unfolding next unended result after
  high_middle l = record { unended = refl; asks = λ p. refl }

  -- the first byte is no T, or there is no low end: THRU may not stand here
  abbrev Plain : Option Literal → ℕ → Type 0
  Plain m b = (m ≡ none) ⊎ (eqb b 0x54 ≡ false)

  plain-begins : (m : Option Literal) (bs : List ℕ) (k : ℕ) → Plain m (get_or bs 0 0) → begins (values h n vs m) (take (suc k) bs) ≡ begins_literal (take (suc k) bs)
  unfolding begins prefix after
  plain-begins none bs k i = refl
  plain-begins (some x) bs k (inl i) = let z : ◌≡◌ {A = ℕ} 0 1 = cc in absurd (omega arith)
  plain-begins (some x) [] k (inr i) = refl
  plain-begins (some x) (b ∷ bs) k (inr i) = rw i

  plain-next : (p : ℕ) (m : Option Literal) (bs : List ℕ) (k : ℕ) → Plain m (get_or bs 0 0) →
      next (values h n vs m) p (take k bs)
      ≡ or_else (bind (read_literal (take k bs)) (λ x. some (values h n (alone vs m) (some x))))
      (bind (unended (take k bs)) (λ v. bind (read_literal v) (λ x. some (labelled h n (alone vs m ++ single x ∷ [])))))
  unfolding next same
  plain-next p none bs k i =
      ap (or_else (bind (read_literal (take k bs)) (λ x. some (values h n vs (some x))))) (by (same (take k bs) (bytes "THRU")))
    where
      by : (t : Bool) →
          or_else (bind (unended (take k bs)) (λ v. bind (read_literal v) (λ x. some (labelled h n (vs ++ single x ∷ []))))) (bind (given t none) (thru h n vs))
          ≡ bind (unended (take k bs)) (λ v. bind (read_literal v) (λ x. some (labelled h n (vs ++ single x ∷ []))))
      by true = or_nothing _
      by false = or_nothing _
  plain-next p (some x) bs k (inl i) = let z : ◌≡◌ {A = ℕ} 0 1 = cc in absurd (omega arith)
  plain-next p (some x) bs k (inr i) = rw (other bs k i) (ap (or_else (bind (read_literal (take k bs)) (λ y. some (values h n (vs ++ single x ∷ []) (some y))))) (or_nothing _))
    where
      other : (bs : List ℕ) (k : ℕ) → eqb (get_or bs 0 0) 0x54 ≡ false → same (take k bs) (bytes "THRU") ≡ false
      other bs zero i = refl
      other [] (suc k) i = refl
      other (b ∷ bs) (suc k) i = rw i

  -- THRU begins with a T, and no literal does
  thru-begins : (x : Literal) (bs : List ℕ) (k : ℕ) → get_or bs 0 0 ≡ 0x54 → begins (values h n vs (some x)) (take (suc k) bs) ≡ prefix (take (suc k) bs) (bytes "THRU")
  unfolding begins prefix after unended result
  thru-begins x [] k e = absurd (omega arith)
  thru-begins x (b ∷ bs) k e =
      subst (λ (c : ℕ). begins (values h n vs (some x)) (c ∷ take k bs) ≡ prefix (c ∷ take k bs) (bytes "THRU")) (sym e) (by k bs)
    where
      none_ended : (w : List ℕ) → ended_by is_literal (0x54 ∷ w) ≡ false
      none_ended [] = refl
      none_ended (c ∷ w) = go (unended (c ∷ w))
        where
          go : (o : Option (List ℕ)) → is_some (bind (bind o (λ v. some (0x54 ∷ v))) (λ v. given (is_literal v) v)) ≡ false
          go none = refl
          go (some v) = refl

      by : (k : ℕ) (bs : List ℕ) → prefix (0x54 ∷ take k bs) (bytes "THRU") || ended_by is_literal (0x54 ∷ take k bs) ≡ prefix (0x54 ∷ take k bs) (bytes "THRU")
      by k bs = rw (none_ended (take k bs)) (or-false (prefix (0x54 ∷ take k bs) (bytes "THRU")))

  thru-next : (p : ℕ) (x : Literal) (bs : List ℕ) (k : ℕ) → get_or bs 0 0 ≡ 0x54 →
      next (values h n vs (some x)) p (take k bs) ≡ given (same (take k bs) (bytes "THRU")) (high h n vs x)
  unfolding next same unended result after
  thru-next p x bs zero e = refl
  thru-next p x [] (suc k) e = absurd (omega arith)
  thru-next p x (b ∷ bs) (suc k) e =
      subst (λ (c : ℕ). next (values h n vs (some x)) p (c ∷ take k bs) ≡ given (same (c ∷ take k bs) (bytes "THRU")) (high h n vs x)) (sym e)
      (none_ended (take k bs))
    where
      met : (t : Bool) → bind (given t (some x)) (thru h n vs) ≡ given t (high h n vs x)
      met true = refl
      met false = refl

      none_ended : (w : List ℕ) →
          or_else (bind (unended (0x54 ∷ w)) (λ v. bind (read_literal v) (λ y. some (labelled h n ((vs ++ single x ∷ []) ++ single y ∷ [])))))
          (bind (given (same (0x54 ∷ w) (bytes "THRU")) (some x)) (thru h n vs))
          ≡ given (same (0x54 ∷ w) (bytes "THRU")) (high h n vs x)
      none_ended [] = refl
      none_ended (c ∷ w) = go (unended (c ∷ w))
        where
          go : (o : Option (List ℕ)) →
              or_else (bind (bind o (λ v. some (0x54 ∷ v))) (λ v. bind (read_literal v) (λ y. some (labelled h n ((vs ++ single x ∷ []) ++ single y ∷ [])))))
              (bind (given (same (0x54 ∷ c ∷ w) (bytes "THRU")) (some x)) (thru h n vs))
              ≡ given (same (0x54 ∷ c ∷ w) (bytes "THRU")) (high h n vs x)
          go none = met (same (0x54 ∷ c ∷ w) (bytes "THRU"))
          go (some v) = met (same (0x54 ∷ c ∷ w) (bytes "THRU"))

-- What a literal leads to among values: the next word, or the end of the entry.
abbrev pub on_value : List ℕ → Naming → ℕ → List Value → ℕ → Result Spelled ℕ → Reading
on_value text h n vs p (Ok (Spelled.Open k)) = joined text k (values h n vs (some (literal_in text p k)))
on_value text h n vs p (Ok (Spelled.Ended k)) = joined text (k + 1) (labelled h n (vs ++ single (literal_in text p k) ∷ []))
on_value text h n vs p (Err k) = faulty h.earlier k

abbrev pub on_high : List ℕ → Naming → ℕ → List Value → Literal → ℕ → Result Spelled ℕ → Reading
on_high text h n vs l p (Ok (Spelled.Open k)) = joined text k (values h n (vs ++ range l (literal_in text p k) ∷ []) none)
on_high text h n vs l p (Ok (Spelled.Ended k)) = joined text (k + 1) (labelled h n (vs ++ range l (literal_in text p k) ∷ []))
on_high text h n vs l p (Err k) = faulty h.earlier k

module _ (text : List ℕ) (e : ℕ) (h : Naming) (n : ℕ) (vs : List Value) where
  -- A literal, where THRU may not stand.
  pub literal-leads_on : (m : Option Literal) → (m ≡ none) ⊎ (eqb (get_or text (inked text e) 0) 0x54 ≡ false) →
      joined text e (values h n vs m) ≡ on_value text h n (alone vs m) (inked text e) (spelled_at text e)
  literal-leads_on m i = spelled-leads text e (values h n vs m) (values_middle h n vs m) (λ x. values h n (alone vs m) (some x)) (λ x. labelled h n (alone vs m ++ single x ∷ []))
      (λ k. plain-begins h n vs m rest_of k (there i)) (λ k. plain-next h n vs (inked text e) m rest_of k (there i)) ∙ same-reading (spelled_at text e)
    where
      rest_of : List ℕ
      rest_of = drop (inked text e) text

      there : (m ≡ none) ⊎ (eqb (get_or text (inked text e) 0) 0x54 ≡ false) → (m ≡ none) ⊎ (eqb (get_or rest_of 0 0) 0x54 ≡ false)
      there (inl i) = inl i
      there (inr i) = inr (rw (first text e) i)

      same-reading : (x : Result Spelled ℕ) →
          on_spelled text e (values h n vs m) (values_middle h n vs m) (λ x. values h n (alone vs m) (some x)) (λ x. labelled h n (alone vs m ++ single x ∷ [])) (inked text e) x
          ≡ on_value text h n (alone vs m) (inked text e) x
      same-reading (Ok (Spelled.Open k)) = refl
      same-reading (Ok (Spelled.Ended k)) = refl
      same-reading (Err k) = refl

  pub thru-leads : (x : Literal) → get_or text (inked text e) 0 ≡ 0x54 →
      joined text e (values h n vs (some x)) ≡ on_reached text (values h n vs (some x)) (high h n vs x) (literal_at (bytes "THRU") text e)
  thru-leads x i =
      literal-leads text e (values h n vs (some x)) (high h n vs x) (values_middle h n vs (some x)) (bytes "THRU")
      (λ k. thru-begins h n vs x (drop (inked text e) text) k (first text e ∙ i)) (λ k. thru-next h n vs (inked text e) x (drop (inked text e) text) k (first text e ∙ i))

  pub high_leads : (l : Literal) → joined text e (high h n vs l) ≡ on_high text h n vs l (inked text e) (spelled_at text e)
  unfolding begins next
  high_leads l =
      spelled-leads text e (high h n vs l) (high_middle h n vs l) (λ x. values h n (vs ++ range l x ∷ []) none) (λ x. labelled h n (vs ++ range l x ∷ []))
      (λ k. refl) (λ k. refl) ∙ same-reading (spelled_at text e)
    where
      same-reading : (x : Result Spelled ℕ) →
          on_spelled text e (high h n vs l) (high_middle h n vs l) (λ x. values h n (vs ++ range l x ∷ []) none) (λ x. labelled h n (vs ++ range l x ∷ [])) (inked text e) x
          ≡ on_high text h n vs l (inked text e) x
      same-reading (Ok (Spelled.Open k)) = refl
      same-reading (Ok (Spelled.Ended k)) = refl
      same-reading (Err k) = refl
