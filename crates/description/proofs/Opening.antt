-- A whole entry: its level, and what follows its name, read as specs/Stages.antt says, are what the reader takes.
use mathlib.Core.Path.{◌≡◌, refl, sym, ap, subst, ◌∙◌}
use mathlib.Core.Bool.{Bool, true, false, cond, ◌&&◌, ◌||◌, and-false, or-false}
use mathlib.Core.Option.{Option, none, some}
use mathlib.Core.List.{List, [], ◌∷◌, ◌++◌, append-nil}
use Prim.Native.Nat.{ℕ, zero, suc, ◌+◌, ◌*◌, ◌-◌, ◌≤◌, ◌<◌}
use native.Mathlib.Omega.{arith}
use borrow.Author.Tests.{eqb-true}
use lib.Dec.{eqb, leb, ltb}
use lib.ListN.{length, get_or, take, drop, length-drop, drop_of_length-le}
use lib.Seq.{get_or-drop, drop-drop, drop-cons}
use Rattle.description.specs.Machine.{bind, closed, run}
use Rattle.description.specs.Words.{mid, pause}
use Rattle.description.specs.Grammar.{bytes, same, ended, is_blank, is_digit, item, packed, Table}
use Rattle.description.specs.Reader.{is_some, given, prefix, read_level, Groups, enter, enters, begins_level, Parts, has_item, Started, State}
use Rattle.description.specs.Reader.{level, name, pic, picture, sign, side, separate, label, finished, next, begins, ends, descriptions}
use Rattle.description.specs.Reader.{parts_of, table_of, Reading, read, faulty, reading}
use Rattle.description.specs.Stages.{blanks, inked, reach, literal_at, side_at, picture_at, sign_at, packed_at, usage_at, clauses_at, after_pic}
use Rattle.description.specs.Stages.{after_picture, after_sign, after_side, after_separate, after_packed, is_eight, leveled, level_at, onward, joined}
use Rattle.description.specs.declared.Sided.{Sided}
use Rattle.description.specs.declared.Pictured.{Pictured}
use Rattle.description.specs.declared.Pictured.TheVariants as Pictured
use Rattle.description.specs.declared.Clauses.{Clauses}
use Rattle.description.specs.declared.Leveled.{Leveled}
use Rattle.description.specs.declared.Leveled.TheVariants as Leveled
use Rattle.description.proofs.Bytes.{apart, and_both, is_some_lem, bind-some}
use Rattle.description.proofs.Takes.{started, naming, level_read}
use Rattle.description.proofs.Fit.{begins_level_lem}
use Rattle.description.proofs.Stages.{from_word, onward-inked, inked-blanks, arrive, after-word}
use Rattle.description.proofs.Phases.{on_reached, on_sided, pic_leads, sign_leads, packed-leads, side-leads, separate_leads}
use Rattle.description.proofs.Ended.{on_pictured, picture_leads}
use Rattle.std.specs.Prelude.{Err, Ok, Result}

-- What follows an item's name.
abbrev pub on_clauses : List ℕ → Started → ℕ → Result Clauses ℕ → Reading
on_clauses text h n (Ok x) = joined text x.end (finished h n (item x.kind x.size x.scale x.digits))
on_clauses text h n (Err k) = faulty h.earlier k

module _ (text : List ℕ) (h : Started) (n : ℕ) where
  after_separate_lem : (c i j : ℕ) (x : Result ℕ ℕ) →
      on_reached text (separate h n c i j) (finished h n (item c (i + j + 1) j (i + j))) x ≡ on_clauses text h n (after_separate c i j x)
  after_separate_lem c i j (Ok k) = refl
  after_separate_lem c i j (Err k) = refl

  after_side_lem : (i j : ℕ) (x : Result Sided ℕ) → on_sided text h n i j x ≡ on_clauses text h n (after_side text i j x)
  after_side_lem i j (Ok s) = separate_leads text s.end h n s.kind i j ∙ after_separate_lem s.kind i j (literal_at (ended (bytes "SEPARATE")) text s.end)
  after_side_lem i j (Err k) = refl

  after_sign_lem : (i j : ℕ) (x : Result ℕ ℕ) → on_reached text (sign h n true i j) (side h n i j) x ≡ on_clauses text h n (after_sign text i j x)
  after_sign_lem i j (Ok k) = side-leads text k h n i j ∙ after_side_lem i j (side_at text k)
  after_sign_lem i j (Err k) = refl

  after_packed_lem : (s : Bool) (i j : ℕ) (x : Result ℕ ℕ) →
      on_reached text (sign h n s i j) (finished h n (packed s i j)) x ≡ on_clauses text h n (after_packed s i j x)
  after_packed_lem s i j (Ok k) = refl
  after_packed_lem s i j (Err k) = refl

  usage_leads : (s : Bool) (i j k : ℕ) → joined text k (sign h n s i j) ≡ on_clauses text h n (usage_at s i j text k)
  unfolding usage_at sign_at packed_at
  usage_leads s i j k = by s (eqb (get_or text (inked text k) 0) 0x53) refl
    where
      by : (s t : Bool) → eqb (get_or text (inked text k) 0) 0x53 ≡ t → joined text k (sign h n s i j) ≡ on_clauses text h n (cond (s && t) (sign_at i j text k) (packed_at s i j text k))
      by true true e = sign_leads text k h n i j (eqb-true (get_or text (inked text k) 0) 0x53 e) ∙ after_sign_lem i j (literal_at (bytes "SIGN") text k)
      by true false e = packed-leads text k h n true i j e ∙ after_packed_lem true i j (literal_at (ended (bytes "COMP-3")) text k)
      by false t e = packed-leads text k h n false i j refl ∙ after_packed_lem false i j (literal_at (ended (bytes "COMP-3")) text k)

  after_picture_lem : (x : Result Pictured ℕ) → on_pictured text h n x ≡ on_clauses text h n (after_picture text x)
  after_picture_lem (Ok (Pictured.Ended x)) = refl
  after_picture_lem (Ok (Pictured.Number s i j k)) = usage_leads s i j k
  after_picture_lem (Err k) = refl

  after_pic_lem : (x : Result ℕ ℕ) → on_reached text (pic h n) (picture h n) x ≡ on_clauses text h n (after_pic text x)
  after_pic_lem (Ok k) = picture_leads text k h n ∙ after_picture_lem (picture_at text k)
  after_pic_lem (Err k) = refl

  pub clauses_lead : (e : ℕ) → joined text e (pic h n) ≡ on_clauses text h n (clauses_at text e)
  unfolding clauses_at
  clauses_lead e = pic_leads text e h n ∙ after_pic_lem (literal_at (bytes "PIC") text e)

-- The text ends between entries.
abbrev pub shut : Option Parts → Parts → ℕ → Reading
shut none d k = faulty d k
shut (some o) d k = read (table_of o)

pub level_ends : (text : List ℕ) (n : ℕ) (g : Groups) (d : Parts) → length text ≤ inked text n → onward text n (level g d) ≡ shut (ends (level g d)) d (inked text n)
unfolding run
level_ends text n g d l = onward-inked text n (level g d) ∙ rw (drop_of_length-le text l) (by (ends (level g d)))
  where
    by : (o : Option Parts) → reading (closed (mid (level g d) (inked text n) []) (inked text n) o) ≡ shut o d (inked text n)
    by none = refl
    by (some o) = refl

-- what a level number leads to, where it stands at p
abbrev pub started_at : List ℕ → Parts → ℕ → ℕ → Option (List ℕ) → Reading
started_at text d p l none = faulty d p
started_at text d p l (some ms) = joined text (p + 2) (name (started ms l p d))

abbrev pub on_leveled : List ℕ → Groups → Parts → ℕ → Result Leveled ℕ → Reading
on_leveled text g d p (Ok (Leveled.Level l)) = started_at text d p l (enter g l)
on_leveled text g d p (Ok Leveled.Name) = joined text (p + 2) (label (naming g p d))
on_leveled text g d p (Err k) = faulty d k

module _ (g : Groups) (d : Parts) where
  abbrev named : ℕ → ℕ → Bool
  named a b = has_item d && (is_eight a && is_eight b)

  abbrev opens : ℕ → Bool
  opens a = begins_level g (a ∷ []) || (has_item d && is_eight a)

  -- what may begin a level number, by how much of it is there
  begins_one : (a : ℕ) → begins (level g d) (a ∷ []) ≡ opens a
  unfolding begins prefix
  begins_one a = rw (and-true (is_eight a))
    where
      and-true : (t : Bool) → t && true ≡ t
      and-true true = refl
      and-true false = refl

  begins_two : (a b : ℕ) → begins (level g d) (a ∷ b ∷ []) ≡ enters g (a ∷ b ∷ []) || named a b
  unfolding begins prefix
  begins_two a b = rw (and-true (is_eight b))
    where
      and-true : (t : Bool) → t && true ≡ t
      and-true true = refl
      and-true false = refl

  begins_three : (a b c : ℕ) → begins (level g d) (a ∷ b ∷ c ∷ []) ≡ false
  unfolding begins prefix
  begins_three a b c = rw (and-false (is_eight b), and-false (is_eight a), and-false (has_item d))

  -- a level whose second digit is right has a first digit that is
  begins-first : (a b : ℕ) → enters g (a ∷ b ∷ []) ≡ true → opens a ≡ true
  begins-first a b h =
      let k = is_some_lem (bind (read_level (a ∷ b ∷ [])) (enter g)) h in
      let m = bind-some (read_level (a ∷ b ∷ [])) (enter g) k.0 k.1 in
      rw (begins_level_lem g m.0 k.0 a [] (b ∷ []) (a ∷ b ∷ []) (level_read (a ∷ b ∷ []) m.0 m.1) m.2 refl)

  named-first : (a b : ℕ) → named a b ≡ true → opens a ≡ true
  named-first a b h =
      let i = and_both (has_item d) (is_eight a && is_eight b) h in
      rw (i.0, (and_both (is_eight a) (is_eight b) i.1).0) (or-true (begins_level g (a ∷ [])))
    where
      or-true : (t : Bool) → t || true ≡ true
      or-true true = refl
      or-true false = refl

  two_reach : (a b : ℕ) (bs : List ℕ) → opens a ≡ true → enters g (a ∷ b ∷ []) || named a b ≡ true → reach (begins (level g d)) [] (a ∷ b ∷ bs) ≡ 2
  unfolding reach
  two_reach a b [] h k = rw (begins_one a, h, begins_two a b, k)
  two_reach a b (c ∷ bs) h k = rw (begins_one a, h, begins_two a b, k, begins_three a b c)

  level_reach : (a b : ℕ) (bs : List ℕ) (s n t : Bool) → enters g (a ∷ b ∷ []) ≡ s → named a b ≡ n → opens a ≡ t →
      reach (begins (level g d)) [] (a ∷ b ∷ bs) ≡ cond (s || n) 2 (cond t 1 0)
  unfolding reach
  level_reach a b bs true n t h i k = two_reach a b bs (begins-first a b h) (rw h)
  level_reach a b bs false true t h i k = two_reach a b bs (named-first a b i) (rw (h, i))
  level_reach a b bs false false true h i k = rw (begins_one a, k, begins_two a b, h, i)
  level_reach a b bs false false false h i k = rw (begins_one a, k)

module _ (text : List ℕ) (g : Groups) (d : Parts) (p : ℕ) where
  abbrev number_of : ℕ → ℕ → ℕ
  number_of a b = 10 * (a - 0x30) + (b - 0x30)

  -- no blank comes first
  inky : (a : ℕ) (bs : List ℕ) → blanks (a ∷ bs) ≡ 0 → is_blank a ≡ false
  unfolding blanks
  inky a bs h = by (is_blank a) refl h
    where
      by : (t : Bool) → is_blank a ≡ t → cond t (suc (blanks bs)) 0 ≡ 0 → is_blank a ≡ false
      by true i h = absurd (omega arith)
      by false i h = i

  -- the first digit can not be
  first_faulty : (a : ℕ) (bs : List ℕ) → is_blank a ≡ false → after-word (p + 0) (level g d) (a ∷ bs) ≡ faulty d p
  first_faulty a bs h = let z : p + 0 ≡ p = omega arith in rw (h, z)

  two_digits : (a b : ℕ) (bs : List ℕ) → drop p text ≡ a ∷ b ∷ bs → (t : Bool) → is_digit a && is_digit b && ltb (number_of a b) 88 ≡ t →
      (o : Option (List ℕ)) → enter g (number_of a b) ≡ o →
      enters g (a ∷ b ∷ []) ≡ true → arrive (next (level g d) p (a ∷ b ∷ [])) (level g d) (p + 2) bs ≡ started_at text d p (number_of a b) o
  unfolding next
  two_digits a b bs f false i o j h = apart h (rw i)
  two_digits a b bs f true i none j h = apart h (rw (i, j))
  two_digits a b bs f true i (some ms) j h =
      let k : drop (p + 2) text ≡ bs = sym (drop-drop 2 p text) ∙ ap (drop 2) f in
      rw (i, j, k)

  two_eights : (a b : ℕ) (bs : List ℕ) → drop p text ≡ a ∷ b ∷ bs → named g d a b ≡ true →
      arrive (next (level g d) p (a ∷ b ∷ [])) (level g d) (p + 2) bs ≡ joined text (p + 2) (label (naming g p d))
  unfolding next same
  two_eights a b bs f h =
      let i = and_both (has_item d) (is_eight a && is_eight b) h in
      let j = and_both (is_eight a) (is_eight b) i.1 in
      let k : drop (p + 2) text ≡ bs = sym (drop-drop 2 p text) ∙ ap (drop 2) f in
      rw (eqb-true a 0x38 j.0, eqb-true b 0x38 j.1, i.0, k)

  level_decided : (rest : List ℕ) → drop p text ≡ rest → blanks rest ≡ 0 → 0 < length rest → (s n t : Bool) → enters g (get_or rest 0 0 ∷ get_or rest 1 0 ∷ []) ≡ s →
      named g d (get_or rest 0 0) (get_or rest 1 0) ≡ n → opens g d (get_or rest 0 0) ≡ t →
      arrive (pause descriptions (level g d) p (take (reach (begins (level g d)) [] rest) rest)) (level g d) (p + reach (begins (level g d)) [] rest)
      (drop (reach (begins (level g d)) [] rest) rest)
      ≡ on_leveled text g d p (leveled p s n t (number_of (get_or rest 0 0) (get_or rest 1 0)))
  unfolding reach next same
  level_decided [] f z l s n t h i k = absurd (omega arith)
  level_decided (a ∷ []) f z l true n t h i k = apart h (rw (and-false (is_digit a)))
  level_decided (a ∷ []) f z l false true t h i k = apart i (rw (and-false (is_eight a)) (and-false (has_item d)))
  level_decided (a ∷ []) f z l false false true h i k = rw (begins_one g d a, k, and-false (is_eight a), and-false (has_item d))
  level_decided (a ∷ []) f z l false false false h i k = rw (begins_one g d a, k) (first_faulty a [] (inky a [] z))
  level_decided (a ∷ b ∷ bs) f z l true n t h i k =
      rw (level_reach g d a b bs true n t h i k)
      (two_digits a b bs f (is_digit a && is_digit b && ltb (number_of a b) 88) refl (enter g (number_of a b)) refl h)
  level_decided (a ∷ b ∷ bs) f z l false true t h i k = rw (level_reach g d a b bs false true t h i k) (two_eights a b bs f i)
  level_decided (a ∷ b ∷ bs) f z l false false true h i k = rw (level_reach g d a b bs false false true h i k, and-false (is_eight a), and-false (has_item d))
  level_decided (a ∷ b ∷ bs) f z l false false false h i k = rw (level_reach g d a b bs false false false h i k) (first_faulty a (b ∷ bs) (inky a (b ∷ bs) z))

first_byte : (text : List ℕ) (p : ℕ) → get_or (drop p text) 0 0 ≡ get_or text p 0
first_byte text p = let z : p + 0 ≡ p = omega arith in get_or-drop p text 0 0 ∙ rw z

pub level_leads : (text : List ℕ) (n : ℕ) (g : Groups) (d : Parts) → inked text n < length text →
    onward text n (level g d) ≡ on_leveled text g d (inked text n) (level_at g (has_item d) text (inked text n))
level_leads text n g d l =
    onward-inked text n (level g d) ∙ from_word (inked text n) (level g d) (drop (inked text n) text)
    ∙ level_decided text g d (inked text n) (drop (inked text n) text) refl (inked-blanks text n) (omega (arith, length-drop (inked text n) text))
    (enters g (get_or (drop (inked text n) text) 0 0 ∷ get_or (drop (inked text n) text) 1 0 ∷ []))
    (named g d (get_or (drop (inked text n) text) 0 0) (get_or (drop (inked text n) text) 1 0)) (opens g d (get_or (drop (inked text n) text) 0 0)) refl refl refl
    ∙ rw (first_byte text (inked text n), get_or-drop (inked text n) text 1 0)
