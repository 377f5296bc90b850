-- What the lines of the table of refusals come to, and the whole answer of the call by them. Assumes nothing.
use Prim.Native.Nat.{ℕ}
use mathlib.Core.Path.{◌≡◌, ap, ◌∙◌}
use mathlib.Core.List.{List, [], ◌∷◌, ◌++◌}
use lib.ListN.{length, drop}
use Rattle.tables.specs.declared.Refusal.{Refusal}
use Rattle.tables.specs.Refusals.{first_of, Check}
use Rattle.tables.proofs.Lines.{lines_before, line_sound, line_refused, line_last}
use Rattle.items.specs.Lines.{item_lines, overlap_check, long_check, room_check}
use Rattle.mending.specs.Mend.{mended_record, changes, mend_lines, mend_line, Mending, mend_by, mending}
use Rattle.std.specs.Prelude.{Err, Ok}

module _ (items content : List ℕ) where
  module _ {refusal : Refusal} where
    pub table_stops : first_of (item_lines items) ≡ Err refusal → first_of (mend_lines items content) ≡ Err refusal
    table_stops e = lines_before (item_lines items) (overlap_check items ∷ long_check items content ∷ []) ∙ line_refused _ e

    pub overlap_stops : first_of (item_lines items) ≡ Ok tt → overlap_check items ≡ Err refusal → first_of (mend_lines items content) ≡ Err refusal
    overlap_stops e f =
        lines_before (item_lines items) (overlap_check items ∷ long_check items content ∷ []) ∙ line_sound _ e ∙ line_refused _ f

  pub record_decides : first_of (item_lines items) ≡ Ok tt → overlap_check items ≡ Ok tt → first_of (mend_lines items content) ≡ long_check items content
  record_decides e f =
      lines_before (item_lines items) (overlap_check items ∷ long_check items content ∷ []) ∙ line_sound _ e ∙ line_sound _ f ∙ line_last _

  module _ (list : List ℕ) where
    by : {line : Check} → mend_line items content (length list) ≡ line
        → mending items content list ≡ mend_by line (mended_record items content) (changes items content) content list
    by e = ap (λ (l : Check). mend_by l (mended_record items content) (changes items content) content list) e

    room : Check
    room = room_check (length (changes items content)) (length list)

    pub stopped : {refusal : Refusal} → first_of (mend_lines items content) ≡ Err refusal
        → mending items content list ≡ record { answer = Err refusal; content = content; list = list }
    unfolding room
    stopped e = by (lines_before (mend_lines items content) (room ∷ []) ∙ line_refused _ e)

    pub crowded : {refusal : Refusal} → first_of (mend_lines items content) ≡ Ok tt → room_check (length (changes items content)) (length list) ≡ Err refusal
        → mending items content list ≡ record { answer = Err refusal; content = content; list = list }
    unfolding room
    crowded e f = by (lines_before (mend_lines items content) (room ∷ []) ∙ line_sound _ e ∙ line_refused _ f)

    pub done : first_of (mend_lines items content) ≡ Ok tt → room_check (length (changes items content)) (length list) ≡ Ok tt
        → mending items content list
        ≡ record {
          answer = Ok (length (changes items content));
          content = mended_record items content;
          list = changes items content ++ drop (length (changes items content)) list;
        }
    unfolding room
    done e f = by (lines_before (mend_lines items content) (room ∷ []) ∙ line_sound _ e ∙ line_last _ ∙ f)
