-- One value more: what is stored of it, and whether a limit is passed.
use mathlib.Core.Path.{◌≡◌, refl, sym, ap, subst, ◌∙◌}
use mathlib.Core.Bool.{Bool, true, false, cond, not, ◌||◌}
use mathlib.Core.Option.{none}
use mathlib.Core.List.{List, [], ◌∷◌, ◌++◌, append_assoc}
use Prim.Native.Nat.{ℕ, suc, ◌+◌, ◌*◌, ◌-◌, ◌≤◌, ◌<◌}
use native.Mathlib.Omega.{arith}
use borrow.Author.Tests.{leb-true, leb-false, ltb-true, lt-ltb, le-ltb}
use lib.Dec.{leb, ltb}
use lib.ListN.{length, take, drop, replicate, length-append}
use lib.Seq.{sets, sets-eq, length-sets, drop-append-add, take_at, length-take-le}
use Rattle.content.specs.declared.Row as Rules
use Rattle.tables.specs.Rows.{row_sound}
use Rattle.description.specs.Grammar.{Row, Literal, literal_row, Value, single, range, Pair, pair, pairs, literals, literal_bytes}
use Rattle.description.specs.Limits.{ruled, barred_alone, barred, any_barred}
use Rattle.description.specs.Stages.{is_literal, literal_in}
use Rattle.description.proofs.Bytes.{apart}
use Rattle.literal_pairs.specs.Spelling.{literal_of}
use Rattle.literal_rows.proofs.Words.{written_small}
use Rattle.condition_names.specs.Values.{value_of, Stands}
use Rattle.value_weights.specs.Weights.{shown, rows_of, weighed}
use Rattle.condition_names.specs.declared.Found.{Found}
use Rattle.value_weights.specs.declared.Weighed.TheVariants.{Barred, Single, Range}
use Rattle.value_notes.specs.Taking.{note_numbers, Small, full, notes_after, row_after, tally_after, wants, is_barred, Takes}
use Rattle.name_entries.specs.Named.{Span, literals_in, notes_of, Standing, pair_numbers, over_values, Left, Held}
use Rattle.value_notes.specs.declared.Tally.{Tally}
use Rattle.value_notes.proofs.Taken.{Room, room_of}

-- Lists that grow at their ends.
pub literals-append : (vs ws : List Value) → literals (vs ++ ws) ≡ literals vs ++ literals ws
unfolding literals
literals-append [] ws = refl
literals-append (single x ∷ vs) ws = ap (λ (l : List Literal). x ∷ l) (literals-append vs ws)
literals-append (range x y ∷ vs) ws = ap (λ (l : List Literal). x ∷ y ∷ l) (literals-append vs ws)

pub bytes-append : (xs ys : List Literal) → literal_bytes (xs ++ ys) ≡ literal_bytes xs ++ literal_bytes ys
unfolding literal_bytes
bytes-append [] ys = refl
bytes-append (x ∷ xs) ys = rw (bytes-append xs ys) (sym (append_assoc x.bytes (literal_bytes xs) (literal_bytes ys)))

pub in_append : (text : List ℕ) (ss us : List Span) → literals_in text (ss ++ us) ≡ literals_in text ss ++ literals_in text us
unfolding literals_in
in_append text [] us = refl
in_append text (a ∷ ss) us = ap (λ (l : List Literal). literal_in text a.from a.until ∷ l) (in_append text ss us)

pub in_length : (text : List ℕ) (ss : List Span) → length (literals_in text ss) ≡ length ss
unfolding literals_in
in_length text [] = refl
in_length text (a ∷ ss) = ap suc (in_length text ss)

notes_append : (text : List ℕ) (o : ℕ) (ss us : List Span) →
    notes_of text o (ss ++ us) ≡ notes_of text o ss ++ notes_of text (o + length (literal_bytes (literals_in text ss))) us
unfolding notes_of literals_in literal_bytes
notes_append text o [] us = let z : o + 0 ≡ o = omega arith in rw z
notes_append text o (a ∷ ss) us =
    let x = literal_in text a.from a.until in
    let z : o + length (x.bytes ++ literal_bytes (literals_in text ss)) ≡ o + length x.bytes + length (literal_bytes (literals_in text ss)) =
    omega (arith, length-append x.bytes (literal_bytes (literals_in text ss))) in
    rw (z, notes_append text (o + length x.bytes) ss us)

standing_append : (text : List ℕ) (ss us : List Span) → Standing text ss → Standing text us → Standing text (ss ++ us)
standing_append text [] us h k = k
standing_append text (a ∷ ss) us h k = (h.0, h.1, h.2, standing_append text ss us h.3 k)

pairs-append : (k : ℕ) (vs ws : List Value) → pairs k (vs ++ ws) ≡ pairs k vs ++ pairs (k + length (literals vs)) ws
unfolding pairs literals
pairs-append k [] ws = let z : k + 0 ≡ k = omega arith in rw z
pairs-append k (single x ∷ vs) ws =
    let z : k + suc (length (literals vs)) ≡ k + 1 + length (literals vs) = omega arith in
    rw z (ap (λ (l : List Pair). pair k k ∷ l) (pairs-append (k + 1) vs ws))
pairs-append k (range x y ∷ vs) ws =
    let z : k + suc (suc (length (literals vs))) ≡ k + 2 + length (literals vs) = omega arith in
    rw z (ap (λ (l : List Pair). pair k (k + 1) ∷ l) (pairs-append (k + 2) vs ws))

numbers-append : (ps qs : List Pair) → pair_numbers (ps ++ qs) ≡ pair_numbers ps ++ pair_numbers qs
unfolding pair_numbers
numbers-append [] qs = refl
numbers-append (p ∷ ps) qs = ap (λ (l : List ℕ). p.low ∷ p.high ∷ l) (numbers-append ps qs)

pub numbers-length : (k : ℕ) (vs : List Value) → length (pair_numbers (pairs k vs)) ≡ length vs * 2
unfolding pairs pair_numbers
numbers-length k [] = refl
numbers-length k (single x ∷ vs) = omega (arith, numbers-length (k + 1) vs)
numbers-length k (range x y ∷ vs) = omega (arith, numbers-length (k + 2) vs)

barred-append : (r : Row) (vs : List Value) (v : Value) → any_barred r (vs ++ v ∷ []) ≡ any_barred r vs || barred r v
unfolding any_barred
barred-append r [] v = or_nothing (barred r v)
  where
    or_nothing : (t : Bool) → t || false ≡ t
    or_nothing true = refl
    or_nothing false = refl
barred-append r (w ∷ vs) v = rw (barred-append r vs v) (by (barred r w))
  where
    by : (t : Bool) → t || (any_barred r vs || barred r v) ≡ t || any_barred r vs || barred r v
    by true = refl
    by false = refl

-- Numbers stored after the first ones.
pub taken_next : (l ns : List ℕ) (i : ℕ) → i + length ns ≤ length l → take (i + length ns) (sets l i ns) ≡ take i l ++ ns
taken_next l ns i h =
    let e = sets-eq ns l i h in
    let n : length (take i l) ≡ i = length-take-le i l (omega arith) in
    rw e
    (take_at (take i l ++ ns) (drop (i + length ns) l) (i + length ns) (omega (arith, n, length-append (take i l) ns)))

-- Two cells of a row of zeros.
pair_set : (ps : List ℕ) (n a b : ℕ) → n + 2 ≤ 16 → length ps ≡ n → sets (0 ∷ 0 ∷ ps ++ replicate (16 - n) 0) (n + 2) (a ∷ b ∷ []) ≡ 0 ∷ 0 ∷ (ps ++ a ∷ b ∷ []) ++ replicate (16 - (n + 2)) 0
pair_set ps n a b h e =
    let z : 16 - n ≡ suc (suc (16 - (n + 2))) = omega arith in
    let f : replicate {A = ℕ} (16 - n) 0 ≡ 0 ∷ 0 ∷ replicate (16 - (n + 2)) 0 = rw z in
    rw f (put (16 - (n + 2)))
  where
    put : (m : ℕ) → sets (0 ∷ 0 ∷ ps ++ 0 ∷ 0 ∷ replicate m 0) (n + 2) (a ∷ b ∷ []) ≡ 0 ∷ 0 ∷ (ps ++ a ∷ b ∷ []) ++ replicate m 0
    put m =
        let r : List ℕ = replicate m 0 in
        let n2 : length (0 ∷ 0 ∷ ps) ≡ n + 2 = omega (arith, e) in
        let d : drop (n + 2 + 2) ((0 ∷ 0 ∷ ps) ++ 0 ∷ 0 ∷ r) ≡ r = rw n2 at (drop-append-add (0 ∷ 0 ∷ ps) (0 ∷ 0 ∷ r) 2) in
        sets-eq (a ∷ b ∷ []) ((0 ∷ 0 ∷ ps) ++ 0 ∷ 0 ∷ r) (n + 2) (omega (arith, length-append (0 ∷ 0 ∷ ps) (0 ∷ 0 ∷ r), e))
        ∙ rw (take_at (0 ∷ 0 ∷ ps) (0 ∷ 0 ∷ r) (n + 2) n2, d)

-- A value that is not barred has literals of at most 256 bytes.
module _ (text : List ℕ) (item : Rules.Row) (f : Found) (s : Stands text f) where
  abbrev low : Literal
  low = literal_in text f.low f.mid

  abbrev high : Literal
  high = literal_in text f.high f.end

  fit_small : (w : List ℕ) → is_literal w ≡ true → barred_alone (shown item) (literal_of w) ≡ false → length (literal_of w).bytes ≤ 256
  fit_small w h b =
      written_small w (ruled (literal_row 0 (literal_of w)))
      (record { whole = h; row = refl; sound = sound (row_sound (ruled (literal_row 0 (literal_of w)))) refl b })
    where
      sound : (t : Bool) → row_sound (ruled (literal_row 0 (literal_of w))) ≡ t → not t || not (Rattle.description.specs.Limits.comparable (shown item) (literal_of w)) ≡ false → t ≡ true
      sound true e b = refl
      sound false e b = apart refl b

  or_no : (a b : Bool) → a || b ≡ false → (a ≡ false) × (b ≡ false)
  or_no true b e = apart refl e
  or_no false b e = (refl, e)

  pub small_value : barred (shown item) (value_of text f) ≡ false → Small (rows_of (value_of text f))
  small_value b = by f.range b
    where
      by : (t : Bool) → barred (shown item) (cond t (range low high) (single low)) ≡ false → Small (rows_of (cond t (range low high) (single low)))
      by true b =
          let i = or_no (barred_alone (shown item) low) _ b in
          let j = or_no (barred_alone (shown item) high) _ i.1 in
          (fit_small _ s.low i.0, fit_small _ s.high j.0)
      by false b = fit_small _ s.low b

  pub small_weighed : Small (weighed item (value_of text f))
  small_weighed = by (barred (shown item) (value_of text f)) refl
    where
      by : (t : Bool) → barred (shown item) (value_of text f) ≡ t → Small (cond t Barred (rows_of (value_of text f)))
      by true e = tt
      by false e = small_value e

-- The literals of a value, and where they stand.
abbrev span : ℕ → ℕ → Span
span p e = record { from = p; until = e }

abbrev spans_of : Found → List Span
spans_of f = cond f.range (span f.low f.mid ∷ span f.high f.end ∷ []) (span f.low f.mid ∷ [])

spans_are : (text : List ℕ) (f : Found) → literals_in text (spans_of f) ≡ literals (value_of text f ∷ [])
unfolding literals_in literals
spans_are text f = by f.range
  where
    by : (t : Bool) →
        literals_in text (cond t (span f.low f.mid ∷ span f.high f.end ∷ []) (span f.low f.mid ∷ []))
        ≡ literals (cond t (range (literal_in text f.low f.mid) (literal_in text f.high f.end)) (single (literal_in text f.low f.mid)) ∷ [])
    by true = refl
    by false = refl

pub wants_is : (v : Value) → wants (rows_of v) ≡ length (literals (v ∷ []))
unfolding wants literals
wants_is (single x) = refl
wants_is (range x y) = refl

not_barred : (v : Value) → is_barred (rows_of v) ≡ false
unfolding is_barred
not_barred (single x) = refl
not_barred (range x y) = refl

-- Whether a limit is passed with one value more.
module _ (item : Rules.Row) (k : ℕ) (vs : List Value) (v : Value) where
  abbrev r : Row
  r = shown item

  length_more : length (literals (vs ++ v ∷ [])) ≡ length (literals vs) + length (literals (v ∷ []))
  length_more = ap length (literals-append vs (v ∷ [])) ∙ length-append (literals vs) (literals (v ∷ []))

  values_more : length (vs ++ v ∷ []) ≡ length vs + 1
  values_more = length-append vs (v ∷ [])

  over_stays : over_values k r vs ≡ true → over_values k r (vs ++ v ∷ []) ≡ true
  over_stays e = by (ltb 64 (k + length (literals vs))) refl (ltb 8 (length vs)) refl (any_barred r vs) refl e
    where
      or-true : (a : Bool) → a || true ≡ true
      or-true true = refl
      or-true false = refl

      by : (a : Bool) → ltb 64 (k + length (literals vs)) ≡ a → (b : Bool) → ltb 8 (length vs) ≡ b → (c : Bool) → any_barred r vs ≡ c → a || b || c ≡ true → over_values k r (vs ++ v ∷ []) ≡ true
      by true i b j c l e =
          let z : ltb 64 (k + length (literals (vs ++ v ∷ []))) ≡ true =
          lt-ltb 64 (k + length (literals (vs ++ v ∷ []))) (omega (arith, ltb-true 64 (k + length (literals vs)) i, length_more)) in
          rw z
      by false i true j c l e =
          let z : ltb 8 (length (vs ++ v ∷ [])) ≡ true = lt-ltb 8 (length (vs ++ v ∷ [])) (omega (arith, ltb-true 8 (length vs) j, values_more)) in
          rw (z, or-true (ltb 64 (k + length (literals (vs ++ v ∷ [])))))
      by false i false j true l e =
          rw (barred-append r vs v, l) (or-true (ltb 64 (k + length (literals (vs ++ v ∷ []))) || ltb 8 (length (vs ++ v ∷ []))))
      by false i false j false l e = apart e refl

  module _ (t : Tally) (fresh : over_values k r vs ≡ false) (fine : t.over ≡ false) (a : t.values ≡ length vs) (b : t.literals ≡ k + length (literals vs)) where
    free : any_barred r vs ≡ false
    free = by (ltb 64 (k + length (literals vs)) || ltb 8 (length vs)) (any_barred r vs) refl fresh
      where
        by : (x y : Bool) → any_barred r vs ≡ y → x || y ≡ false → any_barred r vs ≡ false
        by true y i e = apart refl e
        by false y i e = i ∙ e

    over-next : is_barred (weighed item v) || full t (wants (weighed item v)) ≡ over_values k r (vs ++ v ∷ [])
    unfolding is_barred
    over-next = by (barred r v) refl
      where
        swap : (x y : Bool) → x || y ≡ y || x || false
        swap true true = refl
        swap true false = refl
        swap false true = refl
        swap false false = refl

        or-true : (x : Bool) → x || true ≡ true
        or-true true = refl
        or-true false = refl

        eight : leb 8 t.values ≡ ltb 8 (length (vs ++ v ∷ []))
        eight = go (leb 8 t.values) refl
          where
            go : (x : Bool) → leb 8 t.values ≡ x → x ≡ ltb 8 (length (vs ++ v ∷ []))
            go true e = sym (lt-ltb 8 (length (vs ++ v ∷ [])) (omega (arith, leb-true 8 t.values e, values_more, a)))
            go false e = sym (le-ltb 8 (length (vs ++ v ∷ [])) (omega (arith, leb-false 8 t.values e, values_more, a)))

        by : (x : Bool) → barred r v ≡ x → is_barred (cond x Barred (rows_of v)) || full t (wants (cond x Barred (rows_of v))) ≡ over_values k r (vs ++ v ∷ [])
        by true e =
            rw (barred-append r vs v, free, e) (sym (or-true (ltb 64 (k + length (literals (vs ++ v ∷ []))) || ltb 8 (length (vs ++ v ∷ [])))))
        by false e =
            let z : t.literals + length (literals (v ∷ [])) ≡ k + length (literals (vs ++ v ∷ [])) = omega (arith, b, length_more) in
            rw (not_barred v, wants_is v, fine, eight, z, barred-append r vs v, free, e)
            (swap (ltb 8 (length (vs ++ v ∷ []))) (ltb 64 (k + length (literals (vs ++ v ∷ [])))))

-- What is stored of one value more.
module _ (text : List ℕ) (item : Rules.Row) (ss : List Span) (vs : List Value) (t : Tally) (row notes : List ℕ) (f : Found) (s : Stands text f)
    (l : Left text ss vs t row notes) where
  abbrev v : Value
  v = value_of text f

  abbrev before : List Span
  before = ss ++ l.spans

  as_many : length l.spans ≡ length (literals vs)
  as_many = sym (in_length text l.spans) ∙ ap length l.valued

  pub counted_so : t.literals ≡ length ss + length (literals vs)
  counted_so = omega (arith, l.noted.counted, length-append ss l.spans, as_many)

  valued_more : literals_in text (l.spans ++ spans_of f) ≡ literals (vs ++ v ∷ [])
  valued_more = in_append text l.spans (spans_of f) ∙ rw (l.valued, spans_are text f) (sym (literals-append vs (v ∷ [])))

  paired_more : (a b : ℕ) → t.values < 8 → pair_numbers (pairs t.literals (v ∷ [])) ≡ a ∷ b ∷ [] → sets row (t.values * 2 + 2) (a ∷ b ∷ [])
      ≡ 0 ∷ 0 ∷ pair_numbers (pairs (length ss) (vs ++ v ∷ [])) ++ replicate (16 - length (vs ++ v ∷ []) * 2) 0
  paired_more a b m e =
      let n : length (pair_numbers (pairs (length ss) vs)) ≡ length vs * 2 = numbers-length (length ss) vs in
      let z : length (vs ++ v ∷ []) * 2 ≡ length vs * 2 + 2 = omega (arith, length-append vs (v ∷ [])) in
      let i : pair_numbers (pairs (length ss) (vs ++ v ∷ [])) ≡ pair_numbers (pairs (length ss) vs) ++ a ∷ b ∷ [] =
      ap pair_numbers (pairs-append (length ss) vs (v ∷ [])) ∙ numbers-append (pairs (length ss) vs) (pairs (length ss + length (literals vs)) (v ∷ []))
      ∙ ap (λ (q : List ℕ). pair_numbers (pairs (length ss) vs) ++ q) (rw (← counted_so) e) in
      rw (l.values, l.paired, z, i) (pair_set (pair_numbers (pairs (length ss) vs)) (length vs * 2) a b (omega (arith, m, l.values)) n)

  -- the notes of one literal more
  noted_one : (us : List Span) (n o : ℕ) (buf : List ℕ) (p e : ℕ) → take (n * 7) buf ≡ notes_of text 0 us → o ≡ length (literal_bytes (literals_in text us)) → n * 7 + 7 ≤ length buf →
      take ((n + 1) * 7) (sets buf (n * 7) (note_numbers (ruled (literal_row 0 (literal_in text p e))) o p e)) ≡ notes_of text 0 (us ++ span p e ∷ [])
  unfolding notes_of
  noted_one us n o buf p e h i m =
      let z : (n + 1) * 7 ≡ n * 7 + 7 = omega arith in
      let y : 0 + length (literal_bytes (literals_in text us)) ≡ o = omega (arith, i) in
      rw (z, notes_append text 0 us (span p e ∷ []), y, ← h)
      (taken_next buf (note_numbers (ruled (literal_row 0 (literal_in text p e))) o p e) (n * 7) m)

  sized_one : (us : List Span) (o p e : ℕ) → o ≡ length (literal_bytes (literals_in text us)) →
      o + length (literal_in text p e).bytes ≡ length (literal_bytes (literals_in text (us ++ span p e ∷ [])))
  unfolding literals_in literal_bytes
  sized_one us o p e h =
      let x = literal_in text p e in
      let i : literal_bytes (literals_in text (us ++ span p e ∷ [])) ≡ literal_bytes (literals_in text us) ++ (x.bytes ++ []) =
      ap literal_bytes (in_append text us (span p e ∷ [])) ∙ bytes-append (literals_in text us) (x ∷ []) in
      omega (arith, h, ap length i, length-append (literal_bytes (literals_in text us)) (x.bytes ++ []), length-append x.bytes [])

  abbrev one : Literal
  one = literal_in text f.low f.mid

  abbrev two : Literal
  two = literal_in text f.high f.end

  left_single : f.range ≡ false → t.values < 8 → t.literals + 1 ≤ 64 → 448 ≤ length notes → length one.bytes ≤ 256 →
      Left text ss (vs ++ v ∷ []) (tally_after (Single (ruled (literal_row 0 one))) t) (row_after (Single (ruled (literal_row 0 one))) t row)
      (notes_after (Single (ruled (literal_row 0 one))) f t notes)
  unfolding tally_after row_after notes_after pairs pair_numbers
  left_single i a b n m =
      let e : spans_of f ≡ span f.low f.mid ∷ [] = rw i in
      let g : ss ++ (l.spans ++ spans_of f) ≡ before ++ span f.low f.mid ∷ [] = rw e (sym (append_assoc ss l.spans (span f.low f.mid ∷ []))) in
      record {
        spans = l.spans ++ spans_of f;
        noted =
            record {
              standing = rw g (standing_append text before (span f.low f.mid ∷ []) l.noted.standing (s.starts, s.middle, s.low, tt));
              laid = rw g (noted_one before t.literals t.bytes notes f.low f.mid l.noted.laid l.noted.sized (omega arith));
              counted = rw g (omega (arith, l.noted.counted, length-append before (span f.low f.mid ∷ [])));
              sized = rw g (sized_one before t.bytes f.low f.mid l.noted.sized);
              few = b;
              small = omega (arith, l.noted.small, m);
            };
        valued = valued_more;
        values = omega (arith, l.values, length-append vs (v ∷ []));
        few = omega arith;
        paired = paired_more t.literals t.literals a (rw i);
      }

  left_range : f.range ≡ true → t.values < 8 → t.literals + 2 ≤ 64 → 448 ≤ length notes → length one.bytes ≤ 256 → length two.bytes ≤ 256 →
      Left text ss (vs ++ v ∷ []) (tally_after (Range (ruled (literal_row 0 one)) (ruled (literal_row 0 two))) t) (row_after (Range (ruled (literal_row 0 one)) (ruled (literal_row 0 two))) t row)
      (notes_after (Range (ruled (literal_row 0 one)) (ruled (literal_row 0 two))) f t notes)
  unfolding tally_after row_after notes_after pairs pair_numbers
  left_range i a b n m m2 =
      let s1 : Span = span f.low f.mid in
      let s2 : Span = span f.high f.end in
      let e : spans_of f ≡ s1 ∷ s2 ∷ [] = rw i in
      let g : ss ++ (l.spans ++ spans_of f) ≡ (before ++ s1 ∷ []) ++ s2 ∷ [] =
      rw e (sym (append_assoc ss l.spans (s1 ∷ s2 ∷ [])) ∙ sym (append_assoc before (s1 ∷ []) (s2 ∷ []))) in
      let ns = note_numbers (ruled (literal_row 0 one)) t.bytes f.low f.mid in
      let first = noted_one before t.literals t.bytes notes f.low f.mid l.noted.laid l.noted.sized (omega arith) in
      let size = sized_one before t.bytes f.low f.mid l.noted.sized in
      let z : t.literals + 2 ≡ t.literals + 1 + 1 = omega arith in
      record {
        spans = l.spans ++ spans_of f;
        noted =
            record {
              standing =
                  rw g
                  (standing_append text (before ++ s1 ∷ []) (s2 ∷ [])
                  (standing_append text before (s1 ∷ []) l.noted.standing (s.starts, s.middle, s.low, tt)) (s.goes, s.ends, s.high, tt));
              laid = rw (g, z)
                  (noted_one (before ++ s1 ∷ []) (t.literals + 1) (t.bytes + length one.bytes) (sets notes (t.literals * 7) ns) f.high f.end first size
                  (omega (arith, length-sets notes (t.literals * 7) ns)));
              counted = rw g (omega (arith, l.noted.counted, length-append before (s1 ∷ []), length-append (before ++ s1 ∷ []) (s2 ∷ [])));
              sized = rw g (sized_one (before ++ s1 ∷ []) (t.bytes + length one.bytes) f.high f.end size);
              few = b;
              small = omega (arith, l.noted.small, m, m2);
            };
        valued = valued_more;
        values = omega (arith, l.values, length-append vs (v ∷ []));
        few = omega arith;
        paired = paired_more t.literals (t.literals + 1) a (rw i);
      }

-- One value more.
module _ (text : List ℕ) (item : Rules.Row) (start : Bool) (ss : List Span) (vs : List Value) (t : Tally) (row notes : List ℕ) (f : Found) (s : Stands text f)
    (h : Held text item start ss vs t row notes) (n : 448 ≤ length notes) (r : Tally) (row-after notes-after : List ℕ)
    (k : Takes (weighed item (value_of text f)) f t row notes r row-after notes-after) where
  abbrev w : Value
  w = value_of text f

  start_or : (a b c : Bool) → a ≡ b || c → a ≡ false → (b ≡ false) × (c ≡ false)
  start_or a true c e g = apart refl (sym e ∙ g)
  start_or a false c e g = (refl, sym e ∙ g)

  or_up : (a b c : Bool) → a || b ≡ true → (b ≡ true → c ≡ true) → a || c ≡ true
  or_up true b c e g = refl
  or_up false b c e g = g e

  or-true : (a : Bool) → a || true ≡ true
  or-true true = refl
  or-true false = refl

  over_more : r.over ≡ start || over_values (length ss) (shown item) (vs ++ w ∷ [])
  over_more = by t.over refl
    where
      by : (b : Bool) → t.over ≡ b → r.over ≡ start || over_values (length ss) (shown item) (vs ++ w ∷ [])
      by true e =
          let o : start || over_values (length ss) (shown item) vs ≡ true = sym h.over ∙ e in
          k.over ∙ rw e (or-true (is_barred (weighed item w))) ∙ sym (or_up start _ _ o (over_stays item (length ss) vs w))
      by false e =
          let o = start_or t.over start (over_values (length ss) (shown item) vs) h.over e in
          let l = h.left e in
          k.over ∙ over-next item (length ss) vs w t o.1 e l.values (counted_so text item ss vs t row notes f s l) ∙ rw o.0

  left_more : r.over ≡ false → Left text ss (vs ++ w ∷ []) r row-after notes-after
  unfolding is_barred wants
  left_more e = rw (k.tallied e, k.paired e, k.noted e) (by (barred (shown item) w) refl f.range refl)
    where
      none : is_barred (weighed item w) || full t (wants (weighed item w)) ≡ false
      none = sym k.over ∙ e

      or_no : (a b : Bool) → a || b ≡ false → (a ≡ false) × (b ≡ false)
      or_no true b e = apart refl e
      or_no false b e = (refl, e)

      parts : Room t (wants (weighed item w))
      parts = room_of t (wants (weighed item w)) (or_no (is_barred (weighed item w)) (full t (wants (weighed item w))) none).1

      by : (x : Bool) → barred (shown item) w ≡ x → (y : Bool) → f.range ≡ y →
          Left text ss (vs ++ w ∷ []) (tally_after (weighed item w) t) (row_after (weighed item w) t row) (notes_after (weighed item w) f t notes)
      by true i y j =
          let z : weighed item w ≡ Barred = rw i in
          apart (ap is_barred z) (or_no (is_barred (weighed item w)) (full t (wants (weighed item w))) none).0
      by false i true j =
          let u : w ≡ range (literal_in text f.low f.mid) (literal_in text f.high f.end) = rw j in
          let q : weighed item w ≡ rows_of (range (literal_in text f.low f.mid) (literal_in text f.high f.end)) = rw (i, u) in
          let m = subst (λ (x : Value). Small (rows_of x)) u (small_value text item f s i) in
          let c : t.literals + 2 ≤ 64 = rw q at parts.literals in
          rw q (left_range text item ss vs t row notes f s (h.left parts.«open») j parts.values c n m.0 m.1)
      by false i false j =
          let u : w ≡ single (literal_in text f.low f.mid) = rw j in
          let q : weighed item w ≡ rows_of (single (literal_in text f.low f.mid)) = rw (i, u) in
          let m = subst (λ (x : Value). Small (rows_of x)) u (small_value text item f s i) in
          let c : t.literals + 1 ≤ 64 = rw q at parts.literals in
          rw q (left_single text item ss vs t row notes f s (h.left parts.«open») j parts.values c n m)

  pub held_more : Held text item start ss (vs ++ w ∷ []) r row-after notes-after
  held_more = record { over = over_more; left = left_more }
