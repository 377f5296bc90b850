-- Where words end: within the text, and after where they were looked for.
use mathlib.Core.Path.{◌≡◌, refl, sym, ap, ◌∙◌}
use mathlib.Core.Bool.{Bool, true, false, cond, ◌&&◌, ◌||◌}
use mathlib.Core.Option.{Option, none, some}
use mathlib.Core.List.{List, [], ◌∷◌}
use Prim.Native.Nat.{ℕ, zero, suc, ◌+◌, ◌*◌, ◌-◌, ◌≤◌, ◌<◌}
use native.Mathlib.Omega.{arith}
use native.Mathlib.Decide.{dec_lt}
use borrow.Author.Tests.{eqb-true, eqb-false}
use lib.Dec.{eqb, leb}
use lib.ListN.{length, get_or, take, drop, length-drop, get_or-eq_default}
use Rattle.description.specs.Grammar.{all, any, same, bytes, ended, Picture, Shape, characters, number}
use Rattle.description.specs.Reader.{is_name, is_called, begins_name, is_some, nothing, pictures, enters, begins_level, Groups}
use Rattle.description.specs.Machine.{after, result}
use Rattle.description.specs.Stages.{inked, common, met, literal_at, is_period, name_reach, name_from, name_at, called_at, picture_reach, shape_from}
use Rattle.description.specs.Stages.{ended_picture, open_picture, pictured, picture_from, picture_at, sided, side_at, after_separate, after_side, after_sign}
use Rattle.description.specs.Stages.{sign_at, after_packed, packed_at, usage_at, after_picture, after_pic, clauses_at, is_eight, leveled, level_at, reach}
use Rattle.description.specs.declared.Called.{Called}
use Rattle.description.specs.declared.Called.TheVariants as Called
use Rattle.description.specs.declared.Pictured.{Pictured}
use Rattle.description.specs.declared.Pictured.TheVariants as Pictured
use Rattle.description.specs.declared.Sided.{Sided}
use Rattle.description.specs.declared.Clauses.{Clauses}
use Rattle.description.specs.declared.Leveled.{Leveled}
use Rattle.description.specs.declared.Leveled.TheVariants as Leveled
use Rattle.description.proofs.Bytes.{apart, and_both}
use Rattle.description.proofs.Stages.{reach_le}
use Rattle.description.proofs.Takes.{picture_read}
use Rattle.text_bytes.proofs.Laws.{inked_le}
use Rattle.wanted_words.proofs.Laws.{common_le}
use Rattle.pictures.specs.Drawings.{cap_pictured}
use Rattle.levels.proofs.Stack.{digits_of, digit_range}
use Rattle.entries.specs.Entries.{item_of, item_at, called_of, named_at}
use Rattle.entries.specs.declared.EntryRead.{EntryRead}
use Rattle.entries.specs.declared.EntryRead.TheVariants.{Whole, Name}
use Rattle.std.specs.Prelude.{Err, Ok, Result}

-- A word that was looked for from n on ends within the text, and after n where it is one. A kind is not 0, and no scale is above its digits.
abbrev pub Reaches : List ℕ → ℕ → Result ℕ ℕ → Type 0
Reaches text n (Ok k) = (n < k) × (k ≤ length text)
Reaches text n (Err k) = k ≤ length text

abbrev pub SidesAt : List ℕ → ℕ → Result Sided ℕ → Type 0
SidesAt text n (Ok s) = (0 < s.kind) × ((n < s.end) × (s.end ≤ length text))
SidesAt text n (Err k) = k ≤ length text

abbrev pub Ends : List ℕ → ℕ → Result Clauses ℕ → Type 0
Ends text n (Ok x) = ((0 < x.kind) × (x.scale ≤ x.digits)) × ((n < x.end) × (x.end ≤ length text))
Ends text n (Err k) = k ≤ length text

abbrev pub Draws : List ℕ → ℕ → Result Pictured ℕ → Type 0
Draws text n (Ok (Pictured.Ended x)) = ((0 < x.kind) × (x.scale ≤ x.digits)) × ((n < x.end) × (x.end ≤ length text))
Draws text n (Ok (Pictured.Number s i j k)) = (n < k) × (k ≤ length text)
Draws text n (Err k) = k ≤ length text

abbrev pub Names : List ℕ → ℕ → Result Called ℕ → Type 0
Names text n (Ok (Called.Item k)) = (n + 1 < k) × (k ≤ length text)
Names text n (Ok (Called.Group k)) = (n + 2 < k) × (k ≤ length text)
Names text n (Err k) = k ≤ length text

abbrev pub Wholes : List ℕ → ℕ → Result EntryRead ℕ → Type 0
Wholes text p (Ok (Whole x d k)) = (x.scale ≤ x.digits) × ((p + 5 ≤ k) × (k ≤ length text))
Wholes text p (Ok Name) = p + 2 ≤ length text
Wholes text p (Err k) = k ≤ length text

-- the byte at a place in the text that is no 0
inside : (text : List ℕ) (k c : ℕ) → 0 < c → get_or text k 0 ≡ c → k < length text
inside text k c h e = by (dec_lt k (length text))
  where
    by : Dec (k < length text) → k < length text
    by (yes l) = l
    by (no l) = let m : length text ≤ k = omega arith in absurd (omega (arith, get_or-eq_default text 0 m))

module _ (text : List ℕ) (n : ℕ) (l : n ≤ length text) where
  inked-after : ¬ (inked text n ≡ n) → n < inked text n
  inked-after h = omega arith

  pub literal_reaches : (word : List ℕ) → Reaches text n (literal_at word text n)
  literal_reaches word = by (eqb (inked text n) n) refl
    where
      le : inked text n + common word (drop (inked text n) text) ≤ length text
      le = omega (arith, inked_le text n l, common_le word (drop (inked text n) text), length-drop (inked text n) text)

      at : (t : Bool) → ¬ (inked text n ≡ n) →
          Reaches text n (cond t (Ok (inked text n + common word (drop (inked text n) text))) (Err (inked text n + common word (drop (inked text n) text))))
      at true h = (omega (arith, inked-after h), le)
      at false h = le

      by : (t : Bool) → eqb (inked text n) n ≡ t → Reaches text n (cond t (Err n) (met (length word) (inked text n) (common word (drop (inked text n) text))))
      by true h = l
      by false h = at (eqb (common word (drop (inked text n) text)) (length word)) (eqb-false (inked text n) n h)

  pub name_reaches : (level : ℕ) → Names text n (name_at level text n)
  unfolding is_name all any same
  name_reaches level = by (eqb (inked text n) n) refl
    where
      le : inked text n + name_reach text (inked text n) ≤ length text
      le = omega (arith, inked_le text n l, reach_le begins_name [] (drop (inked text n) text), length-drop (inked text n) text)

      at : (m : ℕ) → name_reach text (inked text n) ≡ m → ¬ (inked text n ≡ n) → (c d g : Bool) → is_called (take m (drop (inked text n) text)) ≡ c → is_period text (inked text n + m) ≡ d →
          Names text n (cond c (cond (d && g) (Ok (Called.Group (inked text n + m + 1))) (Ok (Called.Item (inked text n + m)))) (Err (inked text n + m)))
      at zero e h true d g i j = apart i refl
      at (suc m) e h true true true i j =
          (omega (arith, inked-after h), omega (arith, inside text (inked text n + suc m) 0x2e (omega arith) (eqb-true (get_or text (inked text n + suc m) 0) 0x2e j)))
      at (suc m) e h true true false i j = (omega (arith, inked-after h), omega (arith, le))
      at (suc m) e h true false g i j = (omega (arith, inked-after h), omega (arith, le))
      at m e h false d g i j = omega (arith, le)

      by : (t : Bool) → eqb (inked text n) n ≡ t → Names text n (cond t (Err n) (name_from level text (inked text n)))
      by true h = l
      by false h = at (name_reach text (inked text n)) refl (eqb-false (inked text n) n h) (is_called (take (name_reach text (inked text n)) (drop (inked text n) text)))
          (is_period text (inked text n + name_reach text (inked text n))) (leb level 48) refl refl

  pub side_reaches : SidesAt text n (side_at text n)
  side_reaches = by (eqb (get_or text (inked text n) 0) 0x54) (literal_reaches (bytes "TRAILING")) (literal_reaches (bytes "LEADING"))
    where
      at : (c : ℕ) → 0 < c → (x : Result ℕ ℕ) → Reaches text n x → SidesAt text n (sided c x)
      at c h (Ok k) r = (h, r)
      at c h (Err k) r = r

      by : (t : Bool) → Reaches text n (literal_at (bytes "TRAILING") text n) → Reaches text n (literal_at (bytes "LEADING") text n) →
          SidesAt text n (cond t (sided 6 (literal_at (bytes "TRAILING") text n)) (sided 5 (literal_at (bytes "LEADING") text n)))
      by true a b = at 6 (omega arith) (literal_at (bytes "TRAILING") text n) a
      by false a b = at 5 (omega arith) (literal_at (bytes "LEADING") text n) b

  -- a picture's kind is not that of a group
  abbrev Kind : Shape → Type 0
  Kind (characters c m) = 0 < c
  Kind (number s i j) = Unit {0}

  kind : {w : List ℕ} {s : Shape} → Picture w s → Kind s
  kind (Picture.alphanumeric r) = omega arith
  kind (Picture.alphabetic r) = omega arith
  kind (Picture.unsigned r) = tt
  kind (Picture.signed r) = tt

  pub picture_draws : Draws text n (picture_at text n)
  picture_draws = by (eqb (inked text n) n) refl
    where
      le : inked text n + picture_reach text (inked text n) ≤ length text
      le = omega (arith, inked_le text n l, reach_le (λ u. is_some (after pictures nothing u)) [] (drop (inked text n) text), length-drop (inked text n) text)

      ends : (k : ℕ) (s : Shape) → Kind s → n < k → k ≤ length text → Draws text n (ended_picture k s)
      ends k (characters c m) h a b = ((h, omega arith), (a, b))
      ends k (number false i j) h a b = ((omega arith, omega arith), (a, b))
      ends k (number true i j) h a b = ((omega arith, omega arith), (a, b))

      opens : (k : ℕ) (s : Shape) → n < k → k ≤ length text → Draws text n (open_picture k s)
      opens k (characters c m) a b = b
      opens k (number s i j) a b = (a, b)

      at : ¬ (inked text n ≡ n) → (o : Option Shape) (d : Bool) → shape_from text (inked text n) ≡ o → is_period text (inked text n + picture_reach text (inked text n)) ≡ d →
          Draws text n (pictured (inked text n + picture_reach text (inked text n)) o d)
      at h none d i j = le
      at h (some s) true i j =
          ends (inked text n + picture_reach text (inked text n) + 1) s (kind (picture_read (take (picture_reach text (inked text n)) (drop (inked text n) text)) s i))
          (omega (arith, inked-after h))
          (omega (arith, inside text (inked text n + picture_reach text (inked text n)) 0x2e (omega arith) (eqb-true (get_or text (inked text n + picture_reach text (inked text n)) 0) 0x2e j)))
      at h (some s) false i j = opens (inked text n + picture_reach text (inked text n)) s (omega (arith, inked-after h)) le

      by : (t : Bool) → eqb (inked text n) n ≡ t → Draws text n (cond t (Err n) (picture_from text (inked text n)))
      by true h = l
      by false h = at (eqb-false (inked text n) n h) (shape_from text (inked text n)) (is_period text (inked text n + picture_reach text (inked text n))) refl refl

-- Clauses end after where they begin.
further : (text : List ℕ) (n k : ℕ) (x : Result Clauses ℕ) → n < k → Ends text k x → Ends text n x
further text n k (Ok x) h r = (r.0, (omega (arith, r.1.0), r.1.1))
further text n k (Err e) h r = r

module _ (text : List ℕ) where
  separate_ends : (c i j : ℕ) → 0 < c → (n : ℕ) (x : Result ℕ ℕ) → Reaches text n x → Ends text n (after_separate c i j x)
  separate_ends c i j h n (Ok k) r = ((h, omega arith), r)
  separate_ends c i j h n (Err k) r = r

  side-ends : (i j n : ℕ) (x : Result Sided ℕ) → SidesAt text n x → Ends text n (after_side text i j x)
  side-ends i j n (Ok s) r =
      further text n s.end (after_separate s.kind i j (literal_at (ended (bytes "SEPARATE")) text s.end)) r.1.0
      (separate_ends s.kind i j r.0 s.end (literal_at (ended (bytes "SEPARATE")) text s.end) (literal_reaches text s.end r.1.1 (ended (bytes "SEPARATE"))))
  side-ends i j n (Err k) r = r

  sign_word-ends : (i j n : ℕ) (x : Result ℕ ℕ) → Reaches text n x → Ends text n (after_sign text i j x)
  sign_word-ends i j n (Ok k) r = further text n k (after_side text i j (side_at text k)) r.0 (side-ends i j k (side_at text k) (side_reaches text k r.1))
  sign_word-ends i j n (Err k) r = r

  packed_ends : (s : Bool) (i j n : ℕ) (x : Result ℕ ℕ) → Reaches text n x → Ends text n (after_packed s i j x)
  packed_ends true i j n (Ok k) r = ((omega arith, omega arith), r)
  packed_ends false i j n (Ok k) r = ((omega arith, omega arith), r)
  packed_ends s i j n (Err k) r = r

  usage_ends : (s : Bool) (i j n : ℕ) → n ≤ length text → Ends text n (usage_at s i j text n)
  unfolding usage_at sign_at packed_at
  usage_ends s i j n l = by (s && eqb (get_or text (inked text n) 0) 0x53)
    where
      by : (t : Bool) → Ends text n (cond t (sign_at i j text n) (packed_at s i j text n))
      by true = sign_word-ends i j n (literal_at (bytes "SIGN") text n) (literal_reaches text n l (bytes "SIGN"))
      by false = packed_ends s i j n (literal_at (ended (bytes "COMP-3")) text n) (literal_reaches text n l (ended (bytes "COMP-3")))

  picture_ends : (n : ℕ) (x : Result Pictured ℕ) → Draws text n x → Ends text n (after_picture text x)
  picture_ends n (Ok (Pictured.Ended x)) r = r
  picture_ends n (Ok (Pictured.Number s i j k)) r = further text n k (usage_at s i j text k) r.0 (usage_ends s i j k r.1)
  picture_ends n (Err k) r = r

  pic_ends : (n : ℕ) (x : Result ℕ ℕ) → Reaches text n x → Ends text n (after_pic text x)
  pic_ends n (Ok k) r = further text n k (after_picture text (picture_at text k)) r.0 (picture_ends k (picture_at text k) (picture_draws text k r.1))
  pic_ends n (Err k) r = r

  pub clauses_end : (n : ℕ) → n ≤ length text → Ends text n (clauses_at text n)
  unfolding clauses_at
  clauses_end n l = pic_ends n (literal_at (bytes "PIC") text n) (literal_reaches text n l (bytes "PIC"))

  item_whole : (l d p n k : ℕ) (x : Result Clauses ℕ) → p + 4 ≤ k → Ends text k x → Wholes text p (item_of l d p n x)
  item_whole l d p n k (Ok x) h r = (r.0.1, (omega (arith, r.1.0), r.1.1))
  item_whole l d p n k (Err e) h r = r

  called_whole : (l d p : ℕ) (x : Result Called ℕ) → Names text (p + 2) x → Wholes text p (called_of text l d p x)
  called_whole l d p (Ok (Called.Item k)) r = item_whole l d p (inked text (p + 2)) k (clauses_at text k) (omega (arith, r.0)) (clauses_end k r.1)
  called_whole l d p (Ok (Called.Group k)) r = (omega arith, (omega (arith, r.0), r.1))
  called_whole l d p (Err k) r = r

  pub named_whole : (l d p : ℕ) → p + 2 ≤ length text → Wholes text p (named_at text l d p)
  named_whole l d p h = called_whole l d p (name_at l text (p + 2)) (name_reaches text (p + 2) h l)

-- A level number has two digits in the text.
module _ (g : Groups) (named : Bool) (text : List ℕ) (p : ℕ) where
  abbrev a : ℕ
  a = get_or text p 0

  abbrev b : ℕ
  b = get_or text (p + 1) 0

  abbrev opens : Bool
  opens = begins_level g (a ∷ []) || (named && is_eight a)

  pub level_inside : (l : ℕ) → level_at g named text p ≡ Ok (Leveled.Level l) → p + 2 ≤ length text
  level_inside l e = by (enters g (a ∷ b ∷ [])) (named && (is_eight a && is_eight b)) opens refl e
    where
      by : (s n t : Bool) → enters g (a ∷ b ∷ []) ≡ s → leveled p s n t (10 * (a - 0x30) + (b - 0x30)) ≡ Ok (Leveled.Level l) → p + 2 ≤ length text
      by true n t h e = let k = digit_range b (digits_of g a b h).1 in omega (arith, inside text (p + 1) b (omega (arith, k.0)) refl)
      by false true t h e = let z : ◌≡◌ {A = ℕ} 0 1 = cc in absurd (omega arith)
      by false false true h e = let z : ◌≡◌ {A = ℕ} 0 1 = cc in absurd (omega arith)
      by false false false h e = let z : ◌≡◌ {A = ℕ} 0 1 = cc in absurd (omega arith)

  pub name_inside : level_at g named text p ≡ Ok Leveled.Name → p + 2 ≤ length text
  name_inside e = by (enters g (a ∷ b ∷ [])) (named && (is_eight a && is_eight b)) opens refl e
    where
      by : (s n t : Bool) → named && (is_eight a && is_eight b) ≡ n → leveled p s n t (10 * (a - 0x30) + (b - 0x30)) ≡ Ok Leveled.Name → p + 2 ≤ length text
      by true n t h e = let z : ◌≡◌ {A = ℕ} 0 1 = cc in absurd (omega arith)
      by false true t h e =
          let k = and_both (is_eight a) (is_eight b) (and_both named (is_eight a && is_eight b) h).1 in
          omega (arith, inside text (p + 1) b (omega (arith, eqb-true b 0x38 k.1)) refl)
      by false false true h e = let z : ◌≡◌ {A = ℕ} 0 1 = cc in absurd (omega arith)
      by false false false h e = let z : ◌≡◌ {A = ℕ} 0 1 = cc in absurd (omega arith)

  pub level_small : (l : ℕ) → level_at g named text p ≡ Ok (Leveled.Level l) → l ≤ 99
  level_small l e = by (enters g (a ∷ b ∷ [])) (named && (is_eight a && is_eight b)) opens refl e
    where
      by : (s n t : Bool) → enters g (a ∷ b ∷ []) ≡ s → leveled p s n t (10 * (a - 0x30) + (b - 0x30)) ≡ Ok (Leveled.Level l) → l ≤ 99
      by true n t h e =
          let d = digits_of g a b h in
          let i : 10 * (a - 0x30) + (b - 0x30) ≡ l = cc in
          omega (arith, digit_range a d.0, digit_range b d.1)
      by false true t h e = let z : ◌≡◌ {A = ℕ} 0 1 = cc in absurd (omega arith)
      by false false true h e = let z : ◌≡◌ {A = ℕ} 0 1 = cc in absurd (omega arith)
      by false false false h e = let z : ◌≡◌ {A = ℕ} 0 1 = cc in absurd (omega arith)

  pub leveled_le : (k : ℕ) → p < length text → level_at g named text p ≡ Err k → k ≤ length text
  leveled_le k l e = by (enters g (a ∷ b ∷ [])) (named && (is_eight a && is_eight b)) opens e
    where
      by : (s n t : Bool) → leveled p s n t (10 * (a - 0x30) + (b - 0x30)) ≡ Err k → k ≤ length text
      by true n t e = let z : ◌≡◌ {A = ℕ} 0 1 = cc in absurd (omega arith)
      by false true t e = let z : ◌≡◌ {A = ℕ} 0 1 = cc in absurd (omega arith)
      by false false true e = let i : p + 1 ≡ k = cc in omega arith
      by false false false e = let i : p ≡ k = cc in omega arith

-- With counts that stop, the same place.
pub number_le : (text : List ℕ) (n : ℕ) {s : Bool} {i j k : ℕ} {x : Result Pictured ℕ} (y : Result Pictured ℕ) → x ≡ cap_pictured y → x ≡ Ok (Pictured.Number s i j k) → Draws text n y → k ≤ length text
number_le text n {s} {i} {j} {k} y e f r = by y (sym f ∙ e) r
  where
    by : (y : Result Pictured ℕ) → Ok (Pictured.Number s i j k) ≡ cap_pictured y → Draws text n y → k ≤ length text
    by (Ok (Pictured.Ended y)) h r = let z : ◌≡◌ {A = ℕ} 0 1 = cc in absurd (omega arith)
    by (Ok (Pictured.Number s' a b k')) h r = let q : k ≡ k' = cc in omega (arith, r.1)
    by (Err k') h r = let z : ◌≡◌ {A = ℕ} 0 1 = cc in absurd (omega arith)
