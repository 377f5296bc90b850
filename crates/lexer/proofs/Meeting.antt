-- The next piece of a text.
use mathlib.Core.Path.{◌≡◌, refl, sym, ap, ap₂, ◌∙◌, subst}
use mathlib.Core.Bool.{Bool, true, false, cond, not, ◌&&◌}
use mathlib.Core.Logic.{◌⊎◌, inl, inr, ⊎_elim}
use mathlib.Core.List.{List, [], ◌∷◌, ◌++◌, map}
use Prim.Native.Nat.{ℕ, zero, suc, ◌+◌, ◌-◌, ◌≤◌, ◌<◌}
use native.Mathlib.Omega.{arith}
use lib.Dec.{eqb, ltb}
use lib.ListN.{length, take, drop, length-take, length-drop, length-append}
use lib.Seq.{drop-nil}
use borrow.Author.Tests.{eq-eqb, not-true}
use Rattle.content.specs.Content.{is_sign, first_byte, last_byte, but_first, but_last}
use Rattle.content.specs.WrongByte.{valid_content}
use Rattle.tables.specs.Rows.{row_sound}
use Rattle.tables.proofs.Tests.{both}
use Rattle.description.specs.Grammar.{Word, same}
use Rattle.description.specs.Reader.{is_name}
use Rattle.spelling.specs.Names.{Known, every_name}
use Rattle.spelling.specs.Literals.{Literal, row_of_literal, fits, quoted, doubled, undoubled, text_of, is_text, is_point, without_point, number_of, is_number}
use Rattle.spelling.specs.Keywords.{Piece as Spelt, token, literal, fault, Meaning, alone, item, value, order, equal, faulty, Keyword, vocabulary}
use Rattle.spelling.specs.Meanings.{count, position, named, lookup, meaning, joins, piece_of}
use Rattle.spelling.specs.Reading.{Placed, pieces_from}
use Rattle.spelling.proofs.Cutting.{same_true}
use Rattle.spelling.proofs.Accepted.{small_size}
use Rattle.spelling.proofs.Laying.{of_literal_kind}
use Rattle.std.specs.Prelude.{Some}
use Rattle.splitter.specs.Splits.{words_at, between, from_next}
use Rattle.literal_bytes.specs.Written.{literal_by}
use Rattle.senses.specs.declared.Piece.{Piece}
use Rattle.senses.specs.Senses.{met_of, PieceBy}
use Rattle.lexer.specs.Gathers.{left, Made, MadeBy, Meets}

-- words that joined the word before are passed
passed : (known : Known) (k : ℕ) (ws : List Word) → pieces_from known k ws ≡ pieces_from known 0 (drop k ws)
unfolding pieces_from
passed known zero ws = refl
passed known (suc k) [] = refl
passed known (suc k) (w ∷ ws) = passed known k ws

first_piece : (known : Known) (w : Word) (ws : List Word)
    → pieces_from known 0 (w ∷ ws)
    ≡ record { place = w.place; piece = piece_of (meaning known w.text) ws } ∷ pieces_from known (joins (meaning known w.text) ws) ws
unfolding pieces_from
first_piece known w ws = refl

-- only a literal means a value

abbrev is_value : Meaning → Bool
is_value (alone t) = false
is_value (item t) = false
is_value (value l) = true
is_value (order p j) = false
is_value equal = false
is_value (faulty n) = false

-- a word of a list with no values means none
abbrev no_values : List Keyword → Bool
no_values [] = true
no_values (k ∷ ks) = not (is_value k.meaning) && no_values ks

looked : (w : List ℕ) (other : Meaning) (ks : List Keyword) → no_values ks ≡ true → is_value other ≡ false → is_value (lookup w other ks) ≡ false
unfolding lookup
looked w other [] n e = e
looked w other (k ∷ ks) n e =
    let b = both (not (is_value k.meaning)) (no_values ks) n in
    by (same w k.bytes) (not-true _ b.0) (looked w other ks b.1 e)
  where
    by : (t : Bool) → is_value k.meaning ≡ false → is_value (lookup w other ks) ≡ false → is_value (cond t k.meaning (lookup w other ks)) ≡ false
    by true g h = g
    by false g h = h

named_none : (known : Known) (w : List ℕ) → is_value (named known w) ≡ false
named_none known w = by (is_name w) (eqb (count w (every_name known)) 1) (ltb p n)
  where
    p : ℕ
    p = position w (every_name known)

    n : ℕ
    n = length known.items

    by : (t u v : Bool) → is_value (cond t (cond u (cond v (item p) (alone (327680 + (p - n)))) (faulty 16)) (faulty 15)) ≡ false
    by true true true = refl
    by true true false = refl
    by true false v = refl
    by false u v = refl

-- the sizes of literals beside their words
undoubled_short : (skip : Bool) (v : List ℕ) → length (undoubled skip v) ≤ length v
unfolding undoubled
undoubled_short skip [] = omega arith
undoubled_short true (b ∷ v) = omega (arith, undoubled_short false v)
undoubled_short false (b ∷ v) = omega (arith, undoubled_short (eqb b 0x22) v)

pointless_short : (v : List ℕ) → length (without_point v) ≤ length v
unfolding without_point
pointless_short [] = omega arith
pointless_short (b ∷ v) = by (is_point b) (pointless_short v)
  where
    by : (t : Bool) → length (without_point v) ≤ length v → length (cond t v (b ∷ without_point v)) ≤ suc (length v)
    by true h = omega arith
    by false h = omega arith

text-made : (w : List ℕ) → is_text w ≡ true → Made w (text_of w)
unfolding is_text
text-made w e =
    let v : List ℕ = (text_of w).bytes in
    let p = both (same w (quoted v)) (fits (text_of w)) e in
    let long : length w ≡ length (quoted v) = ap length (same_true w (quoted v) p.0) in
    record {
      by = refl;
      short = omega (arith, undoubled_short false (but_last (but_first w)), length-take (length (but_first w) - 1) (but_first w), length-drop 1 w);
      small = small_size (text_of w) (both (row_sound (row_of_literal 0 (text_of w))) (valid_content 2 0 v) p.1).0 refl;
      quoted = λ k. omega (arith, long, length-append (doubled v) (0x22 ∷ []));
    }

number_kind_lem : (s : Bool) → eqb (cond s 5 3) 2 ≡ false
number_kind_lem true = refl
number_kind_lem false = refl

number-made : (w : List ℕ) → is_number w ≡ true → Made w (number_of w)
unfolding is_number
number-made w e =
    let l : Literal = number_of w in
    let p = (both (fits l) (not (is_point (last_byte w))) e).0 in
    let k : eqb l.kind 2 ≡ false = number_kind_lem (is_sign (first_byte w)) in
    record {
      by = rw k;
      short = pointless_short w;
      small = small_size l (both (row_sound (row_of_literal 0 l)) (valid_content l.kind (row_of_literal 0 l).digits l.bytes) p).0 (of_kind (is_sign (first_byte w)));
      quoted = λ q. absurd (two (is_sign (first_byte w)) q);
    }
  where
    of_kind : (s : Bool) → of_literal_kind (record { kind = cond s 5 3; scale = (number_of w).scale; bytes = (number_of w).bytes }) ≡ true
    of_kind true = refl
    of_kind false = refl

    two : (s : Bool) → ◌≡◌ {A = ℕ} (cond s 5 3) 2 → ⊥
    two true q = omega arith
    two false q = omega arith

made : (known : Known) (w : List ℕ) (l : Literal) → meaning known w ≡ value l → Made w l
unfolding meaning
made known w l e = by (is_text w) refl (is_number w) refl e
  where
    none : is_value (lookup w (named known w) vocabulary) ≡ false
    none = looked w (named known w) vocabulary refl (named_none known w)

    by : (t : Bool) → is_text w ≡ t → (u : Bool) → is_number w ≡ u
        → cond t (value (text_of w)) (cond u (value (number_of w)) (lookup w (named known w) vocabulary)) ≡ value l → Made w l
    by true p u q e = let z : text_of w ≡ l = cc in rw z at (text-made w p)
    by false p true q e = let z : number_of w ≡ l = cc in rw z at (number-made w q)
    by false p false q e =
        let bad : true ≡ false = sym (ap is_value e) ∙ none in
        let z : ◌≡◌ {A = ℕ} 0 1 = cc in absurd (omega arith)

made_by : (known : Known) (w : List ℕ) (ws : List Word) (m : Meaning) → meaning known w ≡ m → MadeBy w (piece_of m ws)
made_by known w ws (alone t) e = tt
made_by known w ws (item t) e = tt
made_by known w ws (value l) e = made known w l e
made_by known w ws (order p j) e = tt
made_by known w ws equal e = tt
made_by known w ws (faulty n) e = tt

module _ (known : Known) (text : List ℕ) (past at end : ℕ) (r : Piece) where
  pub meets : past ≤ at → at < end → words_at text past ≡ from_next text (Some (record { at = at; end = end })) → PieceBy (meaning known (between text at end)) text end r
      → Meets known text past at end r
  meets h l e p =
      let w : List ℕ = between text at end in
      let ws : List Word = words_at text end in
      let m : Meaning = meaning known w in
      record {
        spelt = piece_of m ws;
        met = p.met;
        made = made_by known w ws m refl;
        next =
            ap (pieces_from known 0) e
            ∙ first_piece known (record { place = at; text = w }) ws
            ∙ ap (λ (xs : List Placed). record { place = at; piece = piece_of m ws } ∷ xs)
            (passed known (joins m ws) ws ∙ ap (pieces_from known 0) (sym p.words));
        not_before = h;
        some = l;
        inside = p.passed;
        within = p.within;
      }
