-- One step of the walk over a record that is mended: to the end of the row that starts next. Assumes nothing.
use Prim.Native.Nat.{ℕ, suc, ◌+◌, ◌-◌, ◌*◌, ◌≤◌, ◌<◌}
use native.Mathlib.Omega.{arith}
use mathlib.Core.Path.{◌≡◌, refl, sym, ap, ap₂, ◌∙◌}
use mathlib.Core.List.{List, [], ◌∷◌, ◌++◌, append-nil, append_assoc}
use mathlib.Core.Logic.{inl}
use mathlib.Core.Bool.{Bool, true, false, cond}
use lib.ListN.{length, get_or, take, drop, length-append, length-drop, drop_of_length-le}
use lib.Seq.{take_all, take-length, drop-length, length-take-le, take_at, drop_at, drop-drop}
use borrow.Rule.Slice.PartMut.{put_mid}
use Rattle.mending.proofs.Changes.{changes-within}
use Rattle.mender.proofs.Nearing.{changes_of}
use lib.Dec.{eqb, leb}
use borrow.Author.Tests.{leb-true}
use Rattle.tables.specs.Rows.{row_at, row_count, part}
use Rattle.tables.proofs.Bytes.{RowFacts}
use Rattle.tables.specs.Refusals.{first_of}
use Rattle.items.specs.Items.{elementary_at, part_at, replaced}
use Rattle.mending.specs.Mend.{mended_item, mended_at, mended_record, changes_from, changes, mend_lines}
use Rattle.mender.specs.Walks.{Next, Lying, mended_part, row_changes}
use Rattle.content.specs.declared.Row.{Row}
use Rattle.tables.proofs.Tests.{both}
use native.Mathlib.Decide.{dec_lt}
use Rattle.mending.proofs.Theorems.{clear, lies, facts, mended_long, byte_untouched, item_mended}
use Rattle.mender.proofs.Walking.{half, seen, seen_more, half_more, still_old, seen_same, half_same, Ahead, free_until, ahead_row}
use Rattle.content.specs.Kinds.{is_zoned}
use Rattle.std.specs.Prelude.{Ok}

-- the walk stands at an offset, and this row is the next
pub record Walk (items content : List ℕ) (at row : ℕ) : Type 0 where
  pub within : at ≤ length content
  pub ahead : Ahead items (row_count items) at
  pub next : Next items at row

-- a list of changes has at most three numbers for each byte
pub changes_few : (at : ℕ) (xs ys : List ℕ) → length (changes_from at xs ys) ≤ 3 * length xs
unfolding changes_from
changes_few at [] ys = omega arith
changes_few at (x ∷ xs) [] = omega arith
changes_few at (x ∷ xs) (y ∷ ys) = by (eqb x y) (changes_few (suc at) xs ys)
  where
    by : (b : Bool) → length (changes_from (suc at) xs ys) ≤ 3 * length xs
        → length (cond b (changes_from (suc at) xs ys) (at ∷ x ∷ y ∷ changes_from (suc at) xs ys)) ≤ 3 * suc (length xs)
    by true h = omega arith
    by false h = omega arith

-- a zoned row has at most 19 bytes
zoned_few : (r : Row) → RowFacts r → is_zoned r.kind ≡ true → r.size ≤ 19
zoned_few r f z = by (dec_lt r.kind 5)
  where
    three : 3 ≤ r.kind
    three = leb-true _ _ (both (leb 3 r.kind) (leb r.kind 6) z).0

    six : r.kind ≤ 6
    six = leb-true _ _ (both (leb 3 r.kind) (leb r.kind 6) z).1

    by : Dec (r.kind < 5) → r.size ≤ 19
    by (yes p) = omega (arith, f.plain three (omega arith))
    by (no p) = (f.apart (omega arith) six).1

module _ (items content : List ℕ) (sound : first_of (mend_lines items content) ≡ Ok tt) where
  long : length (mended_record items content) ≡ length content
  long = mended_long items content sound

  pub walk_start : (row : ℕ) → Next items 0 row → Walk items content 0 row
  walk_start row next = record { within = omega arith; ahead = λ v h e. inl (omega arith); next = next }

  module _ {at row : ℕ} (w : Walk items content at row) where
    unchanged : (e : ℕ) → ((v : ℕ) → v < row_count items → elementary_at items v ≡ true → at ≤ (row_at items v).offset → e ≤ (row_at items v).offset)
        → (o : ℕ) → at ≤ o → o < e → get_or (mended_record items content) o 0 ≡ get_or content o 0
    unchanged e least o l h =
        byte_untouched items content sound o (free_until items (row_count items) at w.ahead e least o l h)

    -- the walk ends: the bytes that are left do not change
    module _ (over : row_count items ≤ row) where
      rest : (o : ℕ) → at ≤ o → o < at + (length content - at) → get_or (mended_record items content) o 0 ≡ get_or content o 0
      rest = unchanged (at + (length content - at)) (λ v h e l. absurd (let m = w.next.least v h e l in omega arith))

      to_end : at + (length content - at) ≡ length content
      to_end = let h = w.within in omega arith

      pub all_seen : seen content (mended_record items content) at ≡ changes items content
      all_seen =
          sym (seen_same content (mended_record items content) long at (length content - at) (omega (arith, to_end)) rest)
          ∙ ap (seen content (mended_record items content)) to_end
          ∙ ap₂ (changes_from 0) (take-length content) (take_all (length content) (mended_record items content) (omega (arith, long)))

      pub all_half : half content (mended_record items content) at ≡ mended_record items content
      all_half =
          sym (half_same content (mended_record items content) long at (length content - at) (omega (arith, to_end)) rest)
          ∙ ap (half content (mended_record items content)) to_end
          ∙ ap₂ (λ (x y : List ℕ). x ++ y) (take_all (length content) (mended_record items content) (omega (arith, long))) (drop-length content)
          ∙ append-nil (mended_record items content)

    pub half_long : length (half content (mended_record items content) at) ≡ length content
    half_long =
        let h = w.within in
        omega (
          arith,
          long,
          length-append (take at (mended_record items content)) (drop at content),
          length-take-le at (mended_record items content) (omega (arith, long)),
          length-drop at content,
        )

    -- one row more
    module _ (there : row < row_count items) where
      start : (elementary_at items row ≡ true) × (at ≤ (row_at items row).offset)
      start = w.next.starts there

      gap : ℕ
      gap = (row_at items row).offset - at

      to_row : at + gap ≡ (row_at items row).offset
      unfolding gap
      to_row = let h = start.1 in omega arith

      inside : (row_at items row).offset + (row_at items row).size ≤ length content
      inside = lies items content sound row there start.0

      still : (o : ℕ) → at ≤ o → o < at + gap → get_or (mended_record items content) o 0 ≡ get_or content o 0
      still o l h =
          unchanged (row_at items row).offset (λ v g e m. (w.next.least v g e m).1) o l (omega (arith, to_row))

      seen_row : seen content (mended_record items content) (row_at items row).offset ≡ seen content (mended_record items content) at
      seen_row =
          ap (seen content (mended_record items content)) (sym to_row)
          ∙ seen_same content (mended_record items content) long at gap (omega (arith, to_row, inside)) still

      pub seen_step : seen content (mended_record items content) ((row_at items row).offset + (row_at items row).size)
          ≡ seen content (mended_record items content) at ++ changes_from (row_at items row).offset (part_at items row content) (mended_at items content row)
      seen_step =
          seen_more content (mended_record items content) long (row_at items row).offset (row_at items row).size inside
          ∙ ap₂ (λ (x y : List ℕ). x ++ changes_from (row_at items row).offset (part_at items row content) y) seen_row
          (item_mended items content sound row there start.0)

      half_row : half content (mended_record items content) (row_at items row).offset ≡ half content (mended_record items content) at
      half_row =
          ap (half content (mended_record items content)) (sym to_row)
          ∙ half_same content (mended_record items content) long at gap (omega (arith, to_row, inside)) still

      pub half_step : replaced (row_at items row) (mended_at items content row) (half content (mended_record items content) at)
          ≡ half content (mended_record items content) ((row_at items row).offset + (row_at items row).size)
      half_step =
          ap (replaced (row_at items row) (mended_at items content row)) (sym half_row)
          ∙ half_more content (mended_record items content) long (row_at items row).offset (row_at items row).size inside (row_at items row)
          (mended_at items content row) refl refl (sym (item_mended items content sound row there start.0))

      pub part_step : part_at items row (half content (mended_record items content) at) ≡ part_at items row content
      part_step =
          ap (part_at items row) (sym half_row)
          ∙ still_old content (mended_record items content) long (row_at items row).offset (row_at items row).size inside

      -- the list so far and of this row has room in the whole list, and is short
      pub count-step : length (seen content (mended_record items content) at)
          + length (changes_from (row_at items row).offset (part_at items row content) (mended_at items content row))
          ≤ 400000
      count-step =
          let s = ap length seen_step in
          let f = facts items content sound row there in
          omega (
            arith,
            s,
            f.near,
            f.most,
            length-append (seen content (mended_record items content) at) (changes_from (row_at items row).offset (part_at items row content) (mended_at items content row)),
            changes_few 0 (take ((row_at items row).offset + (row_at items row).size) content) (take ((row_at items row).offset + (row_at items row).size) (mended_record items content)),
            length-take-le ((row_at items row).offset + (row_at items row).size) content inside,
          )

      pub lying : (other : List ℕ) → length other ≡ length content → Lying (row_at items row) other
      lying other e =
          let f = facts items content sound row there in
          record {
            lies = omega (arith, inside);
            near = f.near;
            some = f.some;
            few = λ z. zoned_few (row_at items row) f z;
          }

      pub ends_later : at < (row_at items row).offset + (row_at items row).size
      ends_later = omega (arith, start.1, (facts items content sound row there).some)

      pub walk_on : (next : ℕ) → Next items ((row_at items row).offset + (row_at items row).size) next
          → Walk items content ((row_at items row).offset + (row_at items row).size) next
      walk_on next n =
          record {
            within = inside;
            ahead =
                ahead_row items (row_count items) at w.ahead (clear items content sound) row there start.0 (facts items content sound row there).some start.1
                (λ v h e l. (w.next.least v h e l).1) (λ v h e. (facts items content sound v h).some);
            next = n;
          }

      -- the same, of what the code holds: the row, and the record that is half mended
      module _ {r : Row} {now : List ℕ} (p : r ≡ row_at items row) (q : now ≡ half content (mended_record items content) at) where
        part_is : part r now ≡ part_at items row content
        part_is = ap₂ part p q ∙ part_step

        kind_is : mended_part r now ≡ mended_at items content row
        kind_is = ap₂ (λ (s : Row) (l : List ℕ). mended_item s.kind s.digits l) p part_is

        pub row_changes_lem : row_changes r now
            ≡ changes_from (row_at items row).offset (part_at items row content) (mended_at items content row)
        row_changes_lem = changes_of (ap (λ (s : Row). s.offset) p) part_is kind_is

        pub row_mended : replaced r (mended_part r now) now
            ≡ half content (mended_record items content) ((row_at items row).offset + (row_at items row).size)
        row_mended =
            ap (λ (l : List ℕ). replaced r l now) kind_is
            ∙ ap₂ (λ (s : Row) (l : List ℕ). replaced s (mended_at items content row) l) p q
            ∙ half_step

        pub row_lying : Lying r now
        row_lying = rw p (lying now (ap length q ∙ half_long))

      pub room-step : length (seen content (mended_record items content) at)
          + length (changes_from (row_at items row).offset (part_at items row content) (mended_at items content row))
          ≤ length (changes items content)
      room-step =
          omega (
            arith,
            ap length seen_step,
            length-append (seen content (mended_record items content) at) (changes_from (row_at items row).offset (part_at items row content) (mended_at items content row)),
            changes-within 0 content (mended_record items content) ((row_at items row).offset + (row_at items row).size) long inside,
          )

      -- and where that row ends
      module _ {r : Row} {end : ℕ} (p : r ≡ row_at items row) (q : end ≡ r.offset + r.size) where
        end_is : end ≡ (row_at items row).offset + (row_at items row).size
        end_is = q ∙ ap (λ (s : Row). s.offset + s.size) p

        pub walk_past : {next : ℕ} → Next items end next → Walk items content end next
        walk_past {next} n = rw end_is (walk_on next (rw end_is at n))

        pub less_left : length content - end < length content - at
        less_left = omega (arith, end_is, ends_later, inside)

        pub seen_past : seen content (mended_record items content) end
            ≡ seen content (mended_record items content) at ++ changes_from (row_at items row).offset (part_at items row content) (mended_at items content row)
        seen_past = ap (seen content (mended_record items content)) end_is ∙ seen_step

        pub count_past : {count n : ℕ} → count ≡ length (seen content (mended_record items content) at)
            → n ≡ length (changes_from (row_at items row).offset (part_at items row content) (mended_at items content row))
            → count + n ≡ length (seen content (mended_record items content) end)
        count_past e f = omega (arith, simp length-append at (ap length seen_past))

        pub half_past : {mended : List ℕ} → mended ≡ half content (mended_record items content) ((row_at items row).offset + (row_at items row).size)
            → mended ≡ half content (mended_record items content) end
        half_past e = e ∙ ap (half content (mended_record items content)) (sym end_is)

-- the rest of a list lent, written from its start, and given back
module _ (list₀ list written more last : List ℕ) (count r : ℕ) (c : count ≡ length written) (l : list ≡ written ++ drop count list₀)
    (fits : count ≤ length list₀) where
  rest_is : drop count list ≡ drop count list₀
  rest_is = ap (drop count) l ∙ drop_at written (drop count list₀) count (sym c)

  list_long : length list ≡ length list₀
  list_long = omega (arith, ap length l, length-append written (drop count list₀), length-drop count list₀)

  pub lent_is : take (length list - count) (drop count list) ≡ drop count list₀
  lent_is = ap (take (length list - count)) rest_is ∙ take_all (length list - count) (drop count list₀) (omega (arith, length-drop count list₀, list_long))

  pub list-step : last ≡ more ++ drop r (take (length list - count) (drop count list))
      → put_mid count (length list - count) list last ≡ (written ++ more) ++ drop (count + r) list₀
  list-step e =
      ap₂ (λ (x y : List ℕ). x ++ (last ++ y))
      (ap (take count) l ∙ take_at written (drop count list₀) count (sym c))
      (drop_of_length-le (drop count list) {i = length list - count} (omega (arith, length-drop count list)))
      ∙ ap (λ (x : List ℕ). written ++ x) (append-nil last ∙ e ∙ ap (λ (x : List ℕ). more ++ drop r x) lent_is)
      ∙ ap (λ (x : List ℕ). written ++ (more ++ x)) (drop-drop r count list₀)
      ∙ sym (append_assoc written more (drop (count + r) list₀))
