-- A mending that no line before 10 refuses: what each item becomes, that the list undoes it, and that a second call finds nothing to do.
-- Assumes nothing.
use Prim.Native.Nat.{ℕ, ◌≤◌, ◌<◌}
use native.Mathlib.Omega.{arith}
use mathlib.Core.Path.{◌≡◌, refl, sym, ap, ◌∙◌}
use mathlib.Core.List.{List, [], ◌∷◌, ◌++◌}
use mathlib.Core.Logic.{◌⊎◌, inl, inr, ⊎_elim}
use mathlib.Core.Bool.{true}
use lib.ListN.{length, get_or}
use borrow.Author.Tests.{le-leb}
use Rattle.content.specs.Content.{all, digit_bytes}
use Rattle.content.specs.Letters.{is_space}
use Rattle.content.specs.WrongByte.{valid_content}
use Rattle.tables.specs.Rows.{row_at, row_count}
use Rattle.tables.specs.Operands.{lend}
use Rattle.tables.specs.Refusals.{first_of}
use Rattle.tables.specs.Tables.{item_row_check}
use Rattle.tables.proofs.Bytes.{RowFacts, part_length}
use Rattle.tables.proofs.Lines.{lines_sound, line_sound, line_last}
use Rattle.items.specs.Items.{elementary_at, part_at}
use Rattle.items.specs.Lines.{item_lines, overlap_check, long_check, room_check}
use Rattle.items.proofs.Rewriting.{Lies, Clear, Sized, Free, rewritten-length, rewritten_outside, rewritten-part, rewritten_idle}
use Rattle.items.proofs.Facts.{clear_fact, lies_fact, row_fact}
use Rattle.mending.specs.Mend.{mended_item, mended_at, mended_record, changes, mend_lines, mending, restored, Rising}
use Rattle.mending.proofs.Fields.{mended_valid, valid_untouched, blank_untouched, mended_length, mended_twice}
use Rattle.mending.proofs.Changes.{rising, changes_none, put_back}
use Rattle.std.specs.Prelude.{Ok}

-- each line before 10 ruled out
pub record Mendable (items content : List ℕ) : Type 0 where
  pub table : first_of (item_lines items) ≡ Ok tt
  pub overlap : overlap_check items ≡ Ok tt
  pub long : long_check items content ≡ Ok tt

pub mendable : (items content : List ℕ) → first_of (mend_lines items content) ≡ Ok tt → Mendable items content
mendable items content sound =
    let s = lines_sound (mend_lines items content) sound in
    record { table = line_sound _ s.0 ∙ line_last (item_row_check (lend items [] [])) ∙ s.1.0; overlap = s.1.1.0; long = s.1.1.1.0 }

module _ (items content : List ℕ) (sound : first_of (mend_lines items content) ≡ Ok tt) where
  pub clear : Clear items (row_count items)
  clear = clear_fact items (mendable items content sound).overlap

  pub lies : Lies items (length content) (row_count items)
  lies = lies_fact items content (mendable items content sound).long

  pub facts : (v : ℕ) → v < row_count items → RowFacts (row_at items v)
  facts = row_fact items (mendable items content sound).table

  some : (v : ℕ) → v < row_count items → elementary_at items v ≡ true
      → (1 ≤ length (part_at items v content)) × (length (part_at items v content) ≡ (row_at items v).size)
  some v h e = let p = part_length (row_at items v) content (lies v h e) in (omega (arith, (facts v h).some), p)

  sized : Sized items (mended_at items content) (row_count items)
  sized v h e = let s = some v h e in mended_length (row_at items v).kind (row_at items v).digits (part_at items v content) s.0 ∙ s.1

  pub mended_long : length (mended_record items content) ≡ length content
  mended_long = rewritten-length items (mended_at items content) content (row_count items) lies sized

  -- a byte in no elementary item is untouched
  pub byte_untouched : (o : ℕ) → Free items (row_count items) o → get_or (mended_record items content) o 0 ≡ get_or content o 0
  byte_untouched o free = rewritten_outside items (mended_at items content) content (row_count items) lies sized o free

  module _ (v : ℕ) (there : v < row_count items) (elementary : elementary_at items v ≡ true) where
    pub item_mended : part_at items v (mended_record items content) ≡ mended_at items content v
    item_mended = rewritten-part items (mended_at items content) content (row_count items) lies sized clear v there elementary

    -- an item is valid afterwards, or untouched: no item is half mended
    pub item_valid : (valid_content (row_at items v).kind (row_at items v).digits (part_at items v (mended_record items content)) ≡ true)
        ⊎ (part_at items v (mended_record items content) ≡ part_at items v content)
    item_valid =
        ⊎_elim (λ p. inl (ap (valid_content (row_at items v).kind (row_at items v).digits) item_mended ∙ p)) (λ p. inr (item_mended ∙ p))
        (mended_valid (row_at items v).kind (row_at items v).digits (part_at items v content))

    -- a valid item is untouched
    pub valid_stays : valid_content (row_at items v).kind (row_at items v).digits (part_at items v content) ≡ true
        → part_at items v (mended_record items content) ≡ part_at items v content
    valid_stays e =
        item_mended ∙ valid_untouched (row_at items v).kind (row_at items v).digits (part_at items v content) (some v there elementary).0 e

    -- an item whose digit bytes are spaces only is untouched, whatever its sign: a blank is never 0
    pub blank_stays : 1 ≤ length (digit_bytes (row_at items v).kind (part_at items v content))
        → all is_space (digit_bytes (row_at items v).kind (part_at items v content)) ≡ true
        → part_at items v (mended_record items content) ≡ part_at items v content
    blank_stays h e = item_mended ∙ blank_untouched (row_at items v).kind (row_at items v).digits (part_at items v content) h e

  -- "Putting the old bytes back restores the record"
  pub undone : restored (changes items content) (mended_record items content) ≡ content
  undone = put_back content (mended_record items content) (sym mended_long)

  -- "in rising order"
  pub list_rises : Rising 0 (changes items content)
  list_rises = rising 0 content (mended_record items content)

  -- "a second call changes nothing"
  pub record_again : mended_record items (mended_record items content) ≡ mended_record items content
  record_again =
      rewritten_idle items (mended_at items (mended_record items content)) (mended_record items content) (row_count items)
      (λ v h e.
      let p = item_mended v h e in
      let s = some v h e in
      let kind = (row_at items v).kind in
      let digits = (row_at items v).digits in
      ap (mended_item kind digits) p
      ∙ mended_twice kind digits (part_at items v content) s.0 (mended_length kind digits (part_at items v content) s.0)
      ∙ sym p)

  pub list_again : changes items (mended_record items content) ≡ []
  list_again = rw record_again (changes_none 0 (mended_record items content))

  -- its whole answer: no change counted, the record and the list as they were
  pub second_call : (list : List ℕ)
      → mending items (mended_record items content) list ≡ record { answer = Ok 0; content = mended_record items content; list = list }
  unfolding first_of
  second_call list =
      let s = lines_sound (mend_lines items content) sound in
      rw (list_again, record_again, s.0, s.1.0, s.1.1.0, again, le-leb 0 (length list) (omega arith))
    where
      again : long_check items (mended_record items content) ≡ Ok tt
      again = rw mended_long (mendable items content sound).long
