-- The branches of taking a value.
use mathlib.Core.Path.{◌≡◌, refl, sym, ap, ◌∙◌}
use mathlib.Core.Bool.{Bool, true, false, ◌||◌}
use mathlib.Core.List.{List, [], ◌∷◌}
use Prim.Native.Nat.{ℕ, ◌+◌, ◌*◌, ◌≤◌, ◌<◌}
use native.Mathlib.Omega.{arith}
use borrow.Author.Tests.{leb-true, leb-false, ltb-false, lt-ltb, le-ltb}
use lib.Dec.{leb, ltb}
use lib.ListN.{length}
use lib.Seq.{sets}
use Rattle.description.proofs.Bytes.{apart}
use Rattle.condition_names.specs.declared.Found.{Found}
use Rattle.value_weights.specs.declared.Weighed.{Weighed}
use Rattle.value_weights.specs.declared.Weighed.TheVariants.{Barred, Single, Range}
use Rattle.content.specs.declared.Row as Rules
use Rattle.value_notes.specs.Taking.{Rooms, full, tally, note_numbers, notes_after, row_after, tally_after, wants, is_barred, Takes}
use Rattle.value_notes.specs.declared.Tally.{Tally}

or_no : (a b : Bool) → a || b ≡ false → (a ≡ false) × (b ≡ false)
or_no true b e = apart refl e
or_no false b e = (refl, e)

-- room for n literals more
pub record Room (t : Tally) (n : ℕ) : Type 0 where
  pub «open» : t.over ≡ false
  pub values : t.values < 8
  pub literals : t.literals + n ≤ 64

-- and what fits then
pub record Fits (t : Tally) (row notes : List ℕ) (n : ℕ) : Type 0 where
  pub values : t.values < 8
  pub literals : t.literals + n ≤ 64
  pub bytes : t.bytes + n * 256 ≤ 16384
  pub wide : length row ≡ 18
  pub long : 448 ≤ length notes

pub room_of : (t : Tally) (n : ℕ) → full t n ≡ false → Room t n
room_of t n e =
    let a = or_no t.over (leb 8 t.values || ltb 64 (t.literals + n)) e in
    let b = or_no (leb 8 t.values) (ltb 64 (t.literals + n)) a.1 in
    record { «open» = a.0; values = leb-false 8 t.values b.0; literals = ltb-false 64 (t.literals + n) b.1 }

module _ (t : Tally) (n m : ℕ) (z : n + m ≡ 65) where
  same_test : leb m t.literals ≡ ltb 64 (t.literals + n)
  same_test = by (leb m t.literals) refl
    where
      by : (b : Bool) → leb m t.literals ≡ b → b ≡ ltb 64 (t.literals + n)
      by true e = sym (lt-ltb 64 (t.literals + n) (omega (arith, leb-true m t.literals e)))
      by false e = sym (le-ltb 64 (t.literals + n) (omega (arith, leb-false m t.literals e)))

  pub is_full : t.over || (leb 8 t.values || leb m t.literals) ≡ true → full t n ≡ true
  is_full e = rw (← same_test) e

  pub not_full : t.over || (leb 8 t.values || leb m t.literals) ≡ false → full t n ≡ false
  not_full e = rw (← same_test) e

  has_room : t.over || (leb 8 t.values || leb m t.literals) ≡ false → Room t n
  has_room e = room_of t n (not_full e)

  pub fits : {f : Found} {row notes : List ℕ} → Rooms f t row notes → t.over || (leb 8 t.values || leb m t.literals) ≡ false → Fits t row notes n
  fits R e =
      let r = has_room e in
      let b : t.bytes ≤ t.literals * 256 = R.bytes r.«open» in
      record { values = r.values; literals = r.literals; bytes = omega (arith, r.literals); wide = R.wide; long = R.long }

module _ (w : Weighed) (f : Found) (t : Tally) (row notes : List ℕ) where
  pub passes_over : (r : Tally) → r ≡ tally true t.values t.literals t.bytes → is_barred w || full t (wants w) ≡ true → Takes w f t row notes r row notes
  passes_over r h k =
      let o : r.over ≡ true = ap (λ (x : Tally). x.over) h in
      record { over = o ∙ sym k; tallied = λ e. apart o e; paired = λ e. apart o e; noted = λ e. apart o e; passed = λ _. (h, refl, refl) }

  pub is_taken : (r : Tally) (row-after notes-after : List ℕ) → r.over ≡ false → is_barred w || full t (wants w) ≡ false → r ≡ tally_after w t → row-after ≡ row_after w t row →
      notes-after ≡ notes_after w f t notes → Takes w f t row notes r row-after notes-after
  is_taken r row-after notes-after h k a b c = record { over = h ∙ sym k; tallied = λ _. a; paired = λ _. b; noted = λ _. c; passed = λ e. apart e h }

pub barred-over : (f : Found) (t : Tally) (row notes : List ℕ) (r : Tally) → r ≡ tally true t.values t.literals t.bytes → Takes Barred f t row notes r row notes
unfolding is_barred
barred-over f t row notes r h = passes_over Barred f t row notes r h refl

module _ (low : Rules.Row) (f : Found) (t : Tally) (row notes : List ℕ) where
  pub single_over : (r : Tally) → r ≡ tally true t.values t.literals t.bytes → t.over || (leb 8 t.values || leb 64 t.literals) ≡ true →
      Takes (Single low) f t row notes r row notes
  unfolding is_barred wants
  single_over r h k = passes_over (Single low) f t row notes r h (is_full t 1 64 refl k)

  pub single_taken : (size : ℕ) → size ≡ low.size → t.over || (leb 8 t.values || leb 64 t.literals) ≡ false → {row-after notes-after : List ℕ} →
      row-after ≡ sets row (t.values * 2 + 2) (t.literals ∷ t.literals ∷ []) →
      notes-after ≡ sets notes (t.literals * 7) (note_numbers low t.bytes f.low f.mid) →
      Takes (Single low) f t row notes (tally false (t.values + 1) (t.literals + 1) (t.bytes + size)) row-after notes-after
  unfolding is_barred wants tally_after row_after notes_after
  single_taken size e k {row-after = ra} {notes-after = na} a b = is_taken (Single low) f t row notes _ ra na refl (not_full t 1 64 refl k) (rw e) a b

module _ (low high : Rules.Row) (f : Found) (t : Tally) (row notes : List ℕ) where
  pub range_over : (r : Tally) → r ≡ tally true t.values t.literals t.bytes → t.over || (leb 8 t.values || leb 63 t.literals) ≡ true →
      Takes (Range low high) f t row notes r row notes
  unfolding is_barred wants
  range_over r h k = passes_over (Range low high) f t row notes r h (is_full t 2 63 refl k)

  pub range_taken : (size next : ℕ) → size ≡ low.size → next ≡ high.size → t.over || (leb 8 t.values || leb 63 t.literals) ≡ false → {row-after between notes-after : List ℕ} →
      row-after ≡ sets row (t.values * 2 + 2) (t.literals ∷ (t.literals + 1) ∷ []) →
      between ≡ sets notes (t.literals * 7) (note_numbers low t.bytes f.low f.mid) →
      notes-after ≡ sets between ((t.literals + 1) * 7) (note_numbers high (t.bytes + size) f.high f.end) →
      Takes (Range low high) f t row notes (tally false (t.values + 1) (t.literals + 2) (t.bytes + size + next)) row-after notes-after
  unfolding is_barred wants tally_after row_after notes_after
  range_taken size next e g k {row-after = ra} {between = bt} {notes-after = na} a b c =
      is_taken (Range low high) f t row notes _ ra na refl (not_full t 2 63 refl k) (rw (e, g)) a (c ∙ rw (b, e))

pub same_weight : {w v : Weighed} {f : Found} {t r : Tally} {row notes row-after notes-after : List ℕ} → w ≡ v → Takes v f t row notes r row-after notes-after →
    Takes w f t row notes r row-after notes-after
same_weight e k = rw e k
