-- Whatever a word means, its printed word is read as the same.
use mathlib.Core.Path.{◌≡◌, refl, sym, ap, ap₂, ◌∙◌, subst}
use mathlib.Core.Bool.{Bool, true, false, cond, not, ◌&&◌, ◌||◌, false≢true}
use mathlib.Core.Logic.{◌⊎◌, inl, inr, ⊎_elim}
use mathlib.Core.List.{List, [], ◌∷◌, ◌++◌, map, append_assoc}
use Prim.Native.Nat.{ℕ, zero, suc, ◌+◌, ◌-◌, ◌*◌, ◌/◌, ◌%◌, ◌≤◌, ◌<◌}
use native.Mathlib.Omega.{arith}
use lib.ListN.{length, get_or, take, drop, length-append}
use lib.Seq.{get_or-append-add}
use lib.Dec.{leb, ltb, eqb}
use borrow.Author.Tests.{leb-true, ltb-true, ltb-false, eqb-true, eq-eqb, lt-ltb, not-true}
use Rattle.tables.proofs.Tests.{both}
use Rattle.tables.proofs.Bytes.{row_facts}
use Rattle.tables.specs.Rows.{row_sound}
use Rattle.content.specs.Content.{is_sign, first_byte, last_byte}
use Rattle.content.specs.WrongByte.{valid_content, first_from}
use Rattle.tables.specs.Tokens.{is_item, is_literal}
use Rattle.description.specs.Grammar.{Word, bytes, is_blank, is_letter, is_hyphen, is_name_byte, same, within, any, all as every, keywords}
use Rattle.description.specs.Reader.{is_name}
use Rattle.spelling.specs.Words.{runs, word_length}
use Rattle.spelling.specs.Names.{Known, every_name}
use Rattle.spelling.specs.Literals.{Literal, is_text, is_number, text_of, number_of, fits, row_of_literal, quoted, is_point, doubled, undoubled, without_point, after_point, pointed, written}
use Rattle.spelling.specs.Keywords.{Piece, token, literal, fault, Meaning, alone, item, value, order, equal, faulty, Keyword, vocabulary}
use Rattle.spelling.specs.Meanings.{lookup, meaning, named, called, count, position, piece_of}
use Rattle.spelling.specs.Printing.{word_of, spaced, printable, uniquely, has_name}
use Rattle.spelling.proofs.Cutting.{Stands, same_true}
use Rattle.spelling.proofs.Plain.{plain_name, plain-number, plain_stands, quoted_stands, pointed_again}
use Rattle.spelling.proofs.Joining.{Means, by_itself, by_item, by_value}
use Rattle.spelling.proofs.Laying.{Fine, of_literal_kind}

-- every token or literal that a meaning can come to is read again from its printed word
abbrev pub Good : Known → Meaning → Type 0
Good known (alone t) = Fine known (token t)
Good known (item t) = Fine known (token t)
Good known (value l) = Fine known (literal l)
Good known (order plain joined) = Fine known (token plain) × Fine known (token joined)
Good known equal = Fine known (token 262151)
Good known (faulty number) = Unit {0}

-- the meanings of vocabulary
abbrev GoodTable : Known → List Keyword → Type 0
GoodTable known [] = Unit {0}
GoodTable known (k ∷ ks) = Good known k.meaning × GoodTable known ks

lookup_good : (known : Known) (w : List ℕ) (other : Meaning) (ks : List Keyword) → GoodTable known ks
    → (lookup w other ks ≡ other → Good known other) → Good known (lookup w other ks)
unfolding lookup
lookup_good known w other [] g h = h refl
lookup_good known w other (k ∷ ks) g h = by (same w k.bytes) h (lookup_good known w other ks g.1)
  where
    by : (t : Bool) → (cond t k.meaning (lookup w other ks) ≡ other → Good known other)
        → ((lookup w other ks ≡ other → Good known other) → Good known (lookup w other ks))
        → Good known (cond t k.meaning (lookup w other ks))
    by true h rec = g.0
    by false h rec = rec h

module _ (known : Known) where
  -- a word that is printed from a table, whose facts all hold by computing
  fixed : (t : ℕ) → meaning known (word_of known [] [] t) ≡ alone t → is_literal t ≡ false → printable known [] t ≡ true → has_name known t ≡ true
      → leb 1 (length (word_of known [] [] t)) ≡ true → is_blank (get_or (word_of known [] [] t) 0 0) ≡ false
      → word_length (word_of known [] [] t ++ []) ≡ length (word_of known [] [] t)
      → ((rest : List ℕ) → word_length (word_of known [] [] t ++ 0x20 ∷ rest) ≡ length (word_of known [] [] t))
      → Fine known (token t)
  unfolding spaced
  fixed t m l there named some starts ended followed = (
    by_itself m,
    record { some = leb-true _ _ some; starts = starts; whole = elim [ [] ↦ ended | w ∷ ws ↦ followed (w ++ spaced ws) ] },
    l,
    there,
    named,
  )

  vocabulary_good : GoodTable known vocabulary
  unfolding meaning lookup is_text is_number is_name same within every any valid_content first_from doubled undoubled without_point after_point runs word_length
  vocabulary_good =
      let w0 : Fine known (token 262144) = fixed 262144 refl refl refl refl refl refl refl (λ rest. refl) in
      let w1 : Fine known (token 262145) = fixed 262145 refl refl refl refl refl refl refl (λ rest. refl) in
      let w2 : Fine known (token 262146) = fixed 262146 refl refl refl refl refl refl refl (λ rest. refl) in
      let w3 : Fine known (token 262147) = fixed 262147 refl refl refl refl refl refl refl (λ rest. refl) in
      let w4 : Fine known (token 262148) = fixed 262148 refl refl refl refl refl refl refl (λ rest. refl) in
      let w5 : Fine known (token 262149) = fixed 262149 refl refl refl refl refl refl refl (λ rest. refl) in
      let w6 : Fine known (token 262150) = fixed 262150 refl refl refl refl refl refl refl (λ rest. refl) in
      let w7 : Fine known (token 262151) = fixed 262151 refl refl refl refl refl refl refl (λ rest. refl) in
      let w8 : Fine known (token 262152) = fixed 262152 refl refl refl refl refl refl refl (λ rest. refl) in
      let w9 : Fine known (token 262153) = fixed 262153 refl refl refl refl refl refl refl (λ rest. refl) in
      let w10 : Fine known (token 262154) = fixed 262154 refl refl refl refl refl refl refl (λ rest. refl) in
      let w11 : Fine known (token 262155) = fixed 262155 refl refl refl refl refl refl refl (λ rest. refl) in
      let w12 : Fine known (token 262156) = fixed 262156 refl refl refl refl refl refl refl (λ rest. refl) in
      let w13 : Fine known (token 262157) = fixed 262157 refl refl refl refl refl refl refl (λ rest. refl) in
      let w14 : Fine known (token 262158) = fixed 262158 refl refl refl refl refl refl refl (λ rest. refl) in
      let w15 : Fine known (token 262159) = fixed 262159 refl refl refl refl refl refl refl (λ rest. refl) in
      let w16 : Fine known (token 262160) = fixed 262160 refl refl refl refl refl refl refl (λ rest. refl) in
      let u0 : Fine known (token 131072) = fixed 131072 refl refl refl refl refl refl refl (λ rest. refl) in
      let u1 : Fine known (token 131073) = fixed 131073 refl refl refl refl refl refl refl (λ rest. refl) in
      let u2 : Fine known (token 131074) = fixed 131074 refl refl refl refl refl refl refl (λ rest. refl) in
      let u3 : Fine known (token 131075) = fixed 131075 refl refl refl refl refl refl refl (λ rest. refl) in
      let u4 : Fine known (token 131076) = fixed 131076 refl refl refl refl refl refl refl (λ rest. refl) in
      let u5 : Fine known (token 131077) = fixed 131077 refl refl refl refl refl refl refl (λ rest. refl) in
      let u6 : Fine known (token 131078) = fixed 131078 refl refl refl refl refl refl refl (λ rest. refl) in
      let u7 : Fine known (token 131079) = fixed 131079 refl refl refl refl refl refl refl (λ rest. refl) in
      (w0, (w1, (w2, (w3, (w4, (w5, (w6, (w7, (w8, (w9, (w10, (w11, (w12, (w13, (w14, (w15, (w16, (u0, (u1, (u2, (u3, (u4, (u5, (u6, (u7, ((w5, w8), ((w6, w9), (w7, tt))))))))))))))))))))))))))))

-- where a name that stands once is found
named_once : (w : List ℕ) (names : List (List ℕ)) → 1 ≤ count w names
    → (position w names < length names) × (get_or names (position w names) [] ≡ w)
unfolding count position
named_once w [] h = absurd (omega arith)
named_once w (name ∷ names) h = by (same w name) refl h (named_once w names)
  where
    by : (t : Bool) → same w name ≡ t → 1 ≤ cond t (suc (count w names)) (count w names)
        → (1 ≤ count w names → (position w names < length names) × (get_or names (position w names) [] ≡ w))
        → (cond t 0 (suc (position w names)) < suc (length names)) × (get_or (name ∷ names) (cond t 0 (suc (position w names))) [] ≡ w)
    by true e h rec = (omega arith, sym (same_true w name e))
    by false e h rec = (omega (arith, rec h), (rec h).1)

-- two lists as one
pub get_d_front : (xs ys : List (List ℕ)) (n : ℕ) → n < length xs → get_or (xs ++ ys) n [] ≡ get_or xs n []
get_d_front [] ys n h = absurd (omega arith)
get_d_front (x ∷ xs) ys zero h = refl
get_d_front (x ∷ xs) ys (suc n) h = get_d_front xs ys n (omega arith)

written_number_lem : (l : Literal) → (l.kind ≡ 3) ⊎ (l.kind ≡ 5) → written l ≡ pointed l.scale l.bytes
written_number_lem l k = ⊎_elim (λ e. rw e) (λ e. rw e) k

kind_three : (l : Literal) → l.kind ≡ 3 → of_literal_kind l ≡ true
kind_three l h = rw h

kind_five : (l : Literal) → l.kind ≡ 5 → of_literal_kind l ≡ true
kind_five l h = rw h

number_kind_lem : (t : Bool) → (◌≡◌ {A = ℕ} (cond t 5 3) 3) ⊎ (◌≡◌ {A = ℕ} (cond t 5 3) 5)
number_kind_lem true = inr refl
number_kind_lem false = inl refl

not_empty : (w : List ℕ) → 1 ≤ length (without_point w) → 1 ≤ length w
unfolding without_point
not_empty [] h = h
not_empty (b ∷ w) h = omega arith

some_letter : (w : List ℕ) → any is_letter w ≡ true → 1 ≤ length w
unfolding any
some_letter [] e = absurd (false≢true e)
some_letter (b ∷ w) e = omega arith

-- a word that is printed as it was read
literal_fine : (known : Known) (l : Literal) (w : List ℕ) → written l ≡ w → meaning known w ≡ value l → Stands w
    → fits l ≡ true → of_literal_kind l ≡ true → Fine known (literal l)
literal_fine known l w p e s f k = (rw p (by_value {l = l} e), rw p s, f, k)

item_fine : (known : Known) (t : ℕ) (w : List ℕ) → word_of known [] [] t ≡ w → Means known w (token t) → Stands w
    → is_literal t ≡ false → printable known [] t ≡ true → has_name known t ≡ true → Fine known (token t)
item_fine known t w p m s l there named = (rw p m, rw p s, l, there, named)

-- FILLER is no name
filler_faulty : (known : Known) → meaning known (bytes "FILLER") ≡ faulty 15
unfolding meaning lookup is_text is_number is_name same within every any valid_content first_from doubled undoubled without_point after_point
filler_faulty known = refl

not_filler : (known : Known) (w : List ℕ) {t : ℕ} → Means known w (token t) → same w (bytes "FILLER") ≡ false
not_filler known w {t} m = by (same w (bytes "FILLER")) refl
  where
    wrong : w ≡ (bytes "FILLER") → Means known w (token t) → ⊥
    wrong q (by_itself e) = let f : meaning known w ≡ faulty 15 = rw q (filler_faulty known) in let z : ◌≡◌ {A = ℕ} 0 1 = cc in omega arith
    wrong q (by_item e) = let f : meaning known w ≡ faulty 15 = rw q (filler_faulty known) in let z : ◌≡◌ {A = ℕ} 0 1 = cc in omega arith

    by : (b : Bool) → same w (bytes "FILLER") ≡ b → same w (bytes "FILLER") ≡ false
    by true f = absurd (wrong (same_true w (bytes "FILLER") f) m)
    by false f = f

-- a condition's name that is no other's is told
condition-named : (known : Known) (t : ℕ) → t / 65536 ≡ 5 → uniquely known (get_or known.conditions (t % 65536) []) ≡ true → has_name known t ≡ true
condition-named known t k e = rw k e

module _ (known : Known) (few : (length known.items ≤ 64) × (length known.conditions ≤ 64)) (w : List ℕ) where
  text_good : is_text w ≡ true → meaning known w ≡ value (text_of w) → Good known (value (text_of w))
  unfolding is_text
  text_good t e =
      let p : w ≡ quoted (text_of w).bytes = same_true w (quoted (text_of w).bytes) (both (same w (quoted (text_of w).bytes)) _ t).0 in
      literal_fine known (text_of w) w (sym p) e (subst Stands (sym p) (quoted_stands (text_of w).bytes))
      (both (same w (quoted (text_of w).bytes)) (fits (text_of w)) t).1 refl

  number_good : is_number w ≡ true → meaning known w ≡ value (number_of w) → Good known (value (number_of w))
  unfolding is_number
  number_good t e =
      let l : Literal = number_of w in
      let p = both (fits l) (not (is_point (last_byte w))) t in
      let q = both (row_sound (row_of_literal 0 l)) (valid_content l.kind (row_of_literal 0 l).digits l.bytes) p.0 in
      let k : (l.kind ≡ 3) ⊎ (l.kind ≡ 5) = number_kind_lem (is_sign (first_byte w)) in
      let some : 1 ≤ length (without_point w) = (row_facts (row_of_literal 0 l) q.0).some in
      literal_fine known l w
      (written_number_lem l k ∙ pointed_again w (not-true (is_point (last_byte w)) p.1))
      e
      (plain_stands w (plain-number l.kind (row_of_literal 0 l).digits w k some q.1) (not_empty w some))
      p.0
      (⊎_elim (λ (h : l.kind ≡ 3). kind_three l h) (λ (h : l.kind ≡ 5). kind_five l h) k)

  name_stands : is_name w ≡ true → Stands w
  unfolding is_name
  name_stands f =
      let f5 = (both _ (not (within w keywords)) f).0 in
      let f4 = (both _ (leb (length w) 30) f5).0 in
      let f3 = both _ (any is_letter w) f4 in
      let f2 = (both _ (not (is_hyphen (get_or w (length w - 1) 0))) f3.0).0 in
      let f1 = (both (every is_name_byte w) (not (is_hyphen (get_or w 0 0))) f2).0 in
      plain_stands w (plain_name w f1) (some_letter w f3.1)

  abbrev items : ℕ
  items = length known.items

  abbrev place : ℕ
  place = position w (every_name known)

  -- an item's name
  item_good : is_name w ≡ true → count w (every_name known) ≡ 1 → place < items → meaning known w ≡ item place → Fine known (token place)
  item_good f c h e =
      let k : place / 65536 ≡ 0 = omega (arith, few.0) in
      let i : place % 65536 ≡ place = omega (arith, few.0) in
      let g : get_or known.items place [] ≡ w = sym (get_d_front known.items known.conditions place h) ∙ (named_once w (every_name known) (omega arith)).1 in
      let l : is_literal place ≡ false = rw k in
      item_fine known place w (rw (k, i) g) (by_item e) (name_stands f) l
      (rw (k, i, lt-ltb place items h))
      (rw (k, i, g, not_filler known w {t = place} (by_item e), eq-eqb (count w (every_name known)) 1 c))

  -- a condition's name
  condition_good : is_name w ≡ true → count w (every_name known) ≡ 1 → items ≤ place → meaning known w ≡ alone (327680 + (place - items))
      → Fine known (token (327680 + (place - items)))
  condition_good f c h e =
      let v : ℕ = place - items in
      let t : ℕ = 327680 + v in
      let n = named_once w (every_name known) (omega arith) in
      let back : items + v ≡ place = omega arith in
      let there : v < length known.conditions = omega (arith, n.0, length-append known.items known.conditions) in
      let k : t / 65536 ≡ 5 = omega (arith, few.1) in
      let i : t % 65536 ≡ v = omega (arith, few.1) in
      let g : get_or known.conditions v [] ≡ w =
      sym (get_or-append-add known.items known.conditions v []) ∙ ap (λ (p : ℕ). get_or (every_name known) p []) back ∙ n.1 in
      let l : is_literal t ≡ false = rw k in
      item_fine known t w (rw (k, i) g) (by_itself e) (name_stands f) l
      (rw (k, i, lt-ltb v (length known.conditions) there))
      (condition-named known t k (rw (i, g, not_filler known w {t = t} (by_itself e), eq-eqb (count w (every_name known)) 1 c)))

  called_good : is_name w ≡ true → count w (every_name known) ≡ 1 → meaning known w ≡ called items place → Good known (called items place)
  called_good f c e = by (ltb place items) refl e
    where
      by : (t : Bool) → ltb place items ≡ t → meaning known w ≡ cond t (item place) (alone (327680 + (place - items)))
          → Good known (cond t (item place) (alone (327680 + (place - items))))
      by true h e = item_good f c (ltb-true place items h) e
      by false h e = condition_good f c (ltb-false place items h) e

  name_good : meaning known w ≡ named known w → Good known (named known w)
  name_good e = by (is_name w) refl (eqb (count w (every_name known)) 1) refl e
    where
      by : (t : Bool) → is_name w ≡ t → (u : Bool) → eqb (count w (every_name known)) 1 ≡ u
          → meaning known w ≡ cond t (cond u (called items place) (faulty 16)) (faulty 15)
          → Good known (cond t (cond u (called items place) (faulty 16)) (faulty 15))
      by true f true c e = called_good f (eqb-true _ _ c) e
      by true f false c e = tt
      by false f u c e = tt

  pub good : Good known (meaning known w)
  unfolding meaning
  good = by (is_text w) refl (is_number w) refl refl
    where
      last : Meaning
      last = lookup w (named known w) vocabulary

      by : (t : Bool) → is_text w ≡ t → (u : Bool) → is_number w ≡ u
          → meaning known w ≡ cond t (value (text_of w)) (cond u (value (number_of w)) last)
          → Good known (cond t (value (text_of w)) (cond u (value (number_of w)) last))
      by true t u n e = text_good t e
      by false t true n e = number_good n e
      by false t false n e = lookup_good known w (named known w) vocabulary (vocabulary_good known) (λ q. name_good (e ∙ q))
