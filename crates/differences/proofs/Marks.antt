-- What a row that is sound and lies in both records says, and the whole answer of the call by its lines. Assumes nothing.
use Prim.Native.Nat.{ℕ, ◌+◌, ◌≤◌, ◌<◌}
use native.Mathlib.Nat.{add-zero}
use mathlib.Core.Path.{◌≡◌, refl, sym, ap, ◌∙◌}
use mathlib.Core.List.{List, [], ◌∷◌, ◌++◌}
use mathlib.Core.Bool.{Bool, true, false, cond, not, ◌&&◌}
use lib.ListN.{length, drop}
use lib.Seq.{sets}
use Rattle.compare.specs.declared.Number.{Number}
use Rattle.std.specs.declared.cmp.Ordering.{Ordering}
use Rattle.content.specs.Content.{signed, value}
use Rattle.compare.specs.Order.{is_equal, relation_holds}
use Rattle.compare.specs.Compared.{number_of, scaled_order}
use Rattle.compare.specs.Fields.{NumberField}
use Rattle.tables.specs.declared.Refusal.{Refusal}
use Rattle.tables.specs.declared.Refusal.TheVariants.{Record}
use Rattle.content.specs.declared.Row.{Row}
use Rattle.tables.specs.Rows.{row_at, row_count, is_numeric, lies_in, part}
use Rattle.tables.specs.Operands.{lend}
use Rattle.tables.specs.Refusals.{first_of, Check}
use Rattle.tables.specs.Tables.{item_row_check}
use Rattle.tables.proofs.Tests.{both}
use Rattle.tables.proofs.Bytes.{scale_small}
use Rattle.numbers.proofs.FieldLaws.{number_field}
use Rattle.tables.proofs.Lines.{passes, fails, every_sound, lines_before, lines_sound, line_sound, line_refused, line_last}
use Rattle.items.specs.Items.{listed}
use Rattle.items.specs.Lines.{item_lines, room_check}
use Rattle.items.proofs.Listing.{count_more}
use Rattle.items.proofs.Facts.{row_sound_at, few_fact}
use Rattle.differences.specs.Differ.{letter_v, letter_b, letter_i, same_value, both_valid, differs, mark, entry_of, entry_at, differences}
use Rattle.differences.specs.Differ.{lies_in_both, end_check, differ_lines, differ_by, differing, Held}
use Rattle.std.specs.Prelude.{Err, Ok}

module _ {r : Row} {first second : List ℕ} (h : Held r first second) where
  pub scale_fits : r.scale ≤ 18
  scale_fits = scale_small r h.sound

  module _ {bytes : List ℕ} (n : is_numeric r ≡ true) where
    pub first_field : bytes ≡ part r first → NumberField r.kind bytes
    first_field e = rw e (number_field r first h.sound h.in_first n)

    pub second_field : bytes ≡ part r second → NumberField r.kind bytes
    second_field e = rw e (number_field r second h.sound h.in_second n)

-- what a row lists
module _ (r : Row) (v : ℕ) (xs ys : List ℕ) where
  pub entry_none : differs r xs ys ≡ false → entry_of r v xs ys ≡ []
  entry_none e = rw e

  pub entry_two : differs r xs ys ≡ true → entry_of r v xs ys ≡ v ∷ mark r xs ys ∷ []
  entry_two e = rw e

  pub none_listed : (list : List ℕ) (count : ℕ) → differs r xs ys ≡ false
      → (count ≡ count + length (entry_of r v xs ys)) × (list ≡ sets list count (entry_of r v xs ys))
  none_listed list count e = rw e (sym (add-zero count), refl)

  pub two_fit : (list : List ℕ) (count : ℕ) → differs r xs ys ≡ true → count + length (entry_of r v xs ys) ≤ length list → count + 2 ≤ length list
  two_fit list count e h = rw e at h

  pub two_listed : (list : List ℕ) (count : ℕ) {m : ℕ} → differs r xs ys ≡ true → m ≡ mark r xs ys
      → (count + 2 ≡ count + length (entry_of r v xs ys)) × (sets list count (v ∷ m ∷ []) ≡ sets list count (entry_of r v xs ys))
  two_listed list count e f = (
    sym (ap (λ (l : List ℕ). count + length l) (entry_two e)),
    ap (sets list count) (ap (λ (n : ℕ). v ∷ n ∷ []) f ∙ sym (entry_two e)),
  )

-- the mark of an item
module _ (r : Row) (xs ys : List ℕ) where
  pub mark-text : is_numeric r ≡ false → letter_v ≡ mark r xs ys
  mark-text n = rw n

  -- by the two numbers that were read
  module _ {xs' ys' : List ℕ} {one other : Number} (n : is_numeric r ≡ true) (p : one ≡ number_of r.kind r.digits xs')
      (q : other ≡ number_of r.kind r.digits ys') (e : xs' ≡ xs) (f : ys' ≡ ys) where
    valid_read : one.valid && other.valid ≡ both_valid r xs ys
    valid_read = rw (p, q, e, f)

    pub mark_invalid : not (one.valid && other.valid) ≡ true → letter_i ≡ mark r xs ys
    mark_invalid h = rw (n, fails valid_read h)

    pub mark_valid : not (one.valid && other.valid) ≡ false → {order : Ordering} {b : Bool} (t : Bool)
        → order ≡ scaled_order (signed one.minus one.digits) r.scale (signed other.minus other.digits) r.scale
        → b ≡ relation_holds 7 order → b ≡ t → cond t letter_b letter_v ≡ mark r xs ys
    mark_valid v {order} t g h k =
        let o : order ≡ scaled_order (value r.kind xs) r.scale (value r.kind ys) r.scale = g ∙ rw (p, q, e, f) in
        let same : same_value r xs ys ≡ t = sym (h ∙ ap is_equal o) ∙ k in
        rw (n, passes valid_read v, same)

-- one row more
module _ (items first second : List ℕ) (v : ℕ) where
  pub count_hit : differs (row_at items v) (part (row_at items v) first) (part (row_at items v) second) ≡ true
      → length (listed (entry_at items first second) (v + 1)) ≡ length (listed (entry_at items first second) v) + 2
  count_hit e =
      count_more (entry_at items first second) v
      ∙ ap (λ (l : List ℕ). length (listed (entry_at items first second) v) + length l) (entry_two (row_at items v) v _ _ e)

  pub count_miss : differs (row_at items v) (part (row_at items v) first) (part (row_at items v) second) ≡ false
      → length (listed (entry_at items first second) (v + 1)) ≡ length (listed (entry_at items first second) v)
  count_miss e =
      count_more (entry_at items first second) v
      ∙ ap (λ (l : List ℕ). length (listed (entry_at items first second) v) + length l) (entry_none (row_at items v) v _ _ e)
      ∙ add-zero (length (listed (entry_at items first second) v))

-- where the lines 1, 2, 12 do not apply
module _ (items first second : List ℕ) (sound : first_of (differ_lines items first second) ≡ Ok tt) where
  lines : first_of (item_lines items) ≡ Ok tt
  lines = let s = lines_sound (differ_lines items first second) sound in line_sound _ s.0 ∙ line_last (item_row_check (lend items [] [])) ∙ s.1.0

  pub held : (v : ℕ) → v < row_count items → {row : Row} → row ≡ row_at items v → Held row first second
  held v h e =
      let s = lines_sound (differ_lines items first second) sound in
      let f = both (lies_in (row_at items v) first) (lies_in (row_at items v) second)
      (every_sound (lies_in_both items first second) Record (row_count items) s.1.1.0 v h) in
      rw e (record { sound = row_sound_at items lines v h; in_first = f.0; in_second = f.1 })

  pub few : length items ≤ 320
  few = few_fact items lines

-- what the lines come to
module _ (items first second : List ℕ) where
  pub table_stops : {refusal : Refusal} → first_of (item_lines items) ≡ Err refusal → first_of (differ_lines items first second) ≡ Err refusal
  table_stops e = lines_before (item_lines items) (end_check items first second ∷ []) ∙ line_refused _ e

  pub ends_decide : first_of (item_lines items) ≡ Ok tt → first_of (differ_lines items first second) ≡ end_check items first second
  ends_decide e = lines_before (item_lines items) (end_check items first second ∷ []) ∙ line_sound _ e ∙ line_last _

  module _ (output : List ℕ) where
    room : Check
    room = room_check (length (differences items first second)) (length output)

    by : {line : Check} → first_of (differ_lines items first second ++ room ∷ []) ≡ line
        → differing items first second output ≡ differ_by line (differences items first second) output
    unfolding room
    by e = ap (λ (l : Check). differ_by l (differences items first second) output) e

    pub stopped : {refusal : Refusal} → first_of (differ_lines items first second) ≡ Err refusal
        → differing items first second output ≡ record { answer = Err refusal; output = output }
    stopped e = by (lines_before (differ_lines items first second) (room ∷ []) ∙ line_refused _ e)

    pub crowded : {refusal : Refusal} → first_of (differ_lines items first second) ≡ Ok tt
        → room_check (length (differences items first second)) (length output) ≡ Err refusal
        → differing items first second output ≡ record { answer = Err refusal; output = output }
    unfolding room
    crowded e f = by (lines_before (differ_lines items first second) (room ∷ []) ∙ line_sound _ e ∙ line_refused _ f)

    pub done : first_of (differ_lines items first second) ≡ Ok tt → room_check (length (differences items first second)) (length output) ≡ Ok tt
        → differing items first second output
        ≡ record {
          answer = Ok (length (differences items first second));
          output = differences items first second ++ drop (length (differences items first second)) output;
        }
    unfolding room
    done e f = by (lines_before (differ_lines items first second) (room ∷ []) ∙ line_sound _ e ∙ line_last _ ∙ f)
