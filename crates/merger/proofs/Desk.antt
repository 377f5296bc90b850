-- The lines of the merge desk, as the code tries them, and what is merged where none refuses. Assumes nothing.
use Prim.Native.Nat.{ℕ, zero, suc, ◌+◌, ◌≤◌, ◌<◌}
use native.Mathlib.Omega.{arith}
use native.Mathlib.Decide.{ℕ_discrete}
use mathlib.Core.Path.{◌≡◌, refl, sym, ap, ◌∙◌}
use mathlib.Core.List.Memᴰ
use mathlib.Core.List.{List, [], ◌∷◌, ◌++◌, Memᴰ}
use mathlib.Core.Bool.{Bool, true, false}
use lib.ListN.{length, drop}
use Rattle.std.specs.Prelude.{Result, Ok, Err}
use Rattle.tables.specs.declared.Refusal.{Refusal}
use Rattle.tables.specs.declared.Verdict.{Verdict}
use Rattle.tables.specs.declared.Verdict.TheVariants.{True, False, Refused as Stopped}
use Rattle.tables.specs.Rows.{row_count}
use Rattle.tables.specs.Operands.{Lent, lend_names}
use Rattle.tables.specs.Refusals.{first_of, Check}
use Rattle.tables.specs.Tables.{item_row_check}
use Rattle.tables.proofs.Lines.{lines_before, line_sound, line_refused, line_last, lines_sound}
use Rattle.values.specs.Names.{lent_lines}
use Rattle.grammar.specs.Plan.{plan_check}
use Rattle.grammar.proofs.Lent.{plan-lent}
use Rattle.rules.specs.Calls.{run_gives}
use Rattle.items.specs.Items.{listed}
use Rattle.items.specs.Lines.{overlap_check, long_check}
use Rattle.items.proofs.Facts.{all_lie, few_fact, room_fact}
use Rattle.merging.specs.declared.Merged.{Merged}
use Rattle.merging.specs.Merge.{Copies, copies_of, apart_at, apart_rows, contested, merged_record, length_check, desk_lines, room_lines, Merging, merge_with}
use Rattle.merging.proofs.Rows.{entry_of, rows_all}
use Rattle.merging.proofs.Accepted.{desk_fine}
use Rattle.merging.proofs.Exchanging.{any_verdict}
use Rattle.copies.specs.Ready.{Ready}
use Rattle.merger.specs.Desk.{contested_count, Decides, rooms_for, Leaves}

-- the lines in order
module _ (items literals bytes names plan old first second : List ℕ) where
  abbrev lent : Lent
  lent = lend_names items literals bytes names

  abbrev after : List Check
  after = overlap_check items ∷ length_check old first second ∷ plan_check lent plan ∷ long_check items old ∷ []

  pub lent_refuses : {refusal : Refusal} → first_of (lent_lines lent) ≡ Err refusal → first_of (desk_lines lent plan old first second) ≡ Err refusal
  lent_refuses e = lines_before (lent_lines lent) after ∙ line_refused after e

  module _ (t : first_of (lent_lines lent) ≡ Ok tt) where
    pub overlap_refuses : {refusal : Refusal} → overlap_check items ≡ Err refusal → first_of (desk_lines lent plan old first second) ≡ Err refusal
    overlap_refuses e = lines_before (lent_lines lent) after ∙ line_sound after t ∙ line_refused _ e

    module _ (o : overlap_check items ≡ Ok tt) where
      pub lengths_refuse : {refusal : Refusal} → length_check old first second ≡ Err refusal → first_of (desk_lines lent plan old first second) ≡ Err refusal
      lengths_refuse e = lines_before (lent_lines lent) after ∙ line_sound after t ∙ line_sound _ o ∙ line_refused _ e

  -- the lines before the plan's pass
  pub record Passed : Type 0 where
    pub tables : first_of (lent_lines lent) ≡ Ok tt
    pub apart : overlap_check items ≡ Ok tt
    pub long : length_check old first second ≡ Ok tt

module _ {items literals bytes names plan old first second : List ℕ} (P : Passed items literals bytes names plan old first second) where
  to_plan : first_of (desk_lines (lend_names items literals bytes names) plan old first second)
      ≡ first_of (plan_check (lend_names items literals bytes names) plan ∷ long_check items old ∷ [])
  to_plan = lines_before (lent_lines (lend_names items literals bytes names)) _ ∙ line_sound _ P.tables ∙ line_sound _ P.apart ∙ line_sound _ P.long

  pub plan_refuses : {refusal : Refusal} → plan_check (lend_names items literals [] names) plan ≡ Err refusal
      → first_of (desk_lines (lend_names items literals bytes names) plan old first second) ≡ Err refusal
  plan_refuses e = to_plan ∙ line_refused _ (plan-lent false items literals bytes names plan ∙ e)

  pub record_decides : plan_check (lend_names items literals [] names) plan ≡ Ok tt → {line : Check} → line ≡ long_check items old
      → line ≡ first_of (desk_lines (lend_names items literals bytes names) plan old first second)
  record_decides e line-is = line-is ∙ sym (to_plan ∙ line_sound _ (plan-lent false items literals bytes names plan ∙ e) ∙ line_last _)

-- a desk that refuses nothing: what the writing of a merge assumes
module _ (items literals bytes names plan old first second : List ℕ)
    (fine : first_of (desk_lines (lend_names items literals bytes names) plan old first second) ≡ Ok tt) where
  abbrev lines : List Check
  lines =
      overlap_check items ∷ length_check old first second ∷ plan_check (lend_names items literals bytes names) plan ∷ long_check items old ∷ []

  pub desk_ready : Ready (copies_of items old first second) (length old)
  desk_ready =
      let all = lines_sound (first_of (lent_lines (lend_names items literals bytes names)) ∷ lines) (sym (lines_before (lent_lines (lend_names items literals bytes names)) lines) ∙ fine) in
      let f = desk_fine (lend_names items literals bytes names) plan old first second fine in
      record {
        lies = all_lie items old all.1.1.1.1.0;
        first_long = f.first_long;
        second_long = f.second_long;
        out_long = refl;
      }

  pub desk_few : length items ≤ 320
  unfolding first_of
  desk_few =
      let tables = (lines_sound (first_of (lent_lines (lend_names items literals bytes names)) ∷ lines) (sym (lines_before (lent_lines (lend_names items literals bytes names)) lines) ∙ fine)).0 in
      let each = lines_sound (lent_lines (lend_names items literals bytes names)) tables in
      few_fact items (line_sound (item_row_check (lend_names items literals bytes names) ∷ []) each.0 ∙ line_sound [] each.1.0)

-- what a merge leaves
pub lines_refuse : (lines : List Check) (copies : Copies) (verdict : Verdict) (out list : List ℕ) {refusal : Refusal} → first_of lines ≡ Err refusal
    → Leaves (merge_with lines copies verdict out list) (Err refusal) out list
lines_refuse lines copies verdict out list e =
    rw (lines_before lines (room_lines (length copies.old) (length (contested copies verdict)) out list) ∙ line_refused _ e)
    (record { answered = refl; record_is = refl; contested_are = refl })

pub lines_pass : (lines : List Check) (copies : Copies) (verdict : Verdict) (out list : List ℕ) → first_of lines ≡ Ok tt
    → merge_with [] copies verdict out list ≡ merge_with lines copies verdict out list
lines_pass lines copies verdict out list e =
    rw (lines_before lines (room_lines (length copies.old) (length (contested copies verdict)) out list) ∙ line_sound _ e)

-- the rows changed apart are none only where no item was changed apart, and there the verdict does not matter
rows_empty : (test : ℕ → Bool) (n : ℕ) → length (listed (entry_of test) n) ≡ 0 → (v : ℕ) → v < n → test v ≡ false
rows_empty test n e v h = by (test v) refl
  where
    empty : (xs : List ℕ) → length xs ≡ 0 → Memᴰ v xs → ⊥
    empty [] z m = Memᴰ.not-nil m
    empty (x ∷ xs) z m = omega (arith, z)

    by : (b : Bool) → test v ≡ b → b ≡ false
    by false p = refl
    by true p = absurd (empty (listed (entry_of test) n) e (rows_all test n v h p))

pub decided_as : (lent : Lent) (plan old first second : List ℕ) (switches apart : ℕ) (verdict : Verdict)
    → apart ≡ length (apart_rows (copies_of lent.items old first second)) → Decides lent plan first switches apart verdict
    → (lines : List Check) (out list : List ℕ)
    → merge_with lines (copies_of lent.items old first second) verdict out list
    ≡ merge_with lines (copies_of lent.items old first second) (run_gives lent plan first switches).verdict out list
decided_as lent plan old first second switches apart verdict count decides lines out list = by (ℕ_discrete apart 0)
  where
    by : Dec (apart ≡ 0)
        → merge_with lines (copies_of lent.items old first second) verdict out list
        ≡ merge_with lines (copies_of lent.items old first second) (run_gives lent plan first switches).verdict out list
    by (no p) = ap (λ (v : Verdict). merge_with lines (copies_of lent.items old first second) v out list) (decides p)
    by (yes p) =
        any_verdict lent.items old first second
        (rows_empty (apart_at (copies_of lent.items old first second)) (row_count lent.items) (sym count ∙ p))
        lines verdict (run_gives lent plan first switches).verdict out list

-- how many rows are contested
pub contested_count_lem : (copies : Copies) (verdict : Verdict) (apart : ℕ) → apart ≡ length (apart_rows copies)
    → contested_count verdict apart ≡ length (contested copies verdict)
contested_count_lem copies True apart e = refl
contested_count_lem copies False apart e = refl
contested_count_lem copies (Stopped refusal) apart e = e

-- room, and both outputs
module _ (copies : Copies) (verdict : Verdict) (rows : ℕ) (counted : rows ≡ length (contested copies verdict)) (out list : List ℕ) where
  rooms : first_of (rooms_for (length copies.old) rows (length out) (length list)) ≡ first_of (room_lines (length copies.old) (length (contested copies verdict)) out list)
  rooms = ap (λ (n : ℕ). first_of (rooms_for (length copies.old) n (length out) (length list))) counted

  pub room_refuses : {line : Check} → line ≡ first_of (rooms_for (length copies.old) rows (length out) (length list)) → {refusal : Refusal} → line ≡ Err refusal
      → Leaves (merge_with [] copies verdict out list) (Err refusal) out list
  room_refuses e f = rw (sym rooms ∙ sym e ∙ f) (record { answered = refl; record_is = refl; contested_are = refl })

  abbrev counts : ℕ → Result Merged Refusal
  counts n = Ok (record { bytes = length copies.old; rows = n })

  module _ {line : Check} (e : line ≡ first_of (rooms_for (length copies.old) rows (length out) (length list))) (f : line ≡ Ok tt) where
    pub bytes_fit : length copies.old ≤ length out
    bytes_fit = room_fact (length copies.old) (length out) (lines_sound (rooms_for (length copies.old) rows (length out) (length list)) (sym e ∙ f)).0

    pub rows_fit : length (contested copies verdict) ≤ length list
    rows_fit = omega (arith, counted, room_fact rows (length list) (lines_sound (rooms_for (length copies.old) rows (length out) (length list)) (sym e ∙ f)).1.0)

    pub both_written : {merged left : List ℕ} → merged ≡ merged_record copies verdict ++ drop (length copies.old) out
        → left ≡ contested copies verdict ++ drop (length (contested copies verdict)) list
        → Leaves (merge_with [] copies verdict out list) (Ok (record { bytes = length copies.old; rows = rows })) merged left
    both_written m l =
        rw (sym rooms ∙ sym e ∙ f) (record { answered = ap counts counted; record_is = m; contested_are = l })

-- the same with a record's output of that length
pub ready_for : (copies : Copies) {n m : ℕ} → Ready copies n → m ≡ length copies.old → Ready copies m
ready_for copies r e = record { lies = r.lies; first_long = r.first_long; second_long = r.second_long; out_long = e }

pub leaves_as : {merging other : Merging} {r : Result Merged Refusal} {merged left : List ℕ} → merging ≡ other → Leaves merging r merged left → Leaves other r merged left
leaves_as e l =
    record {
      answered = l.answered ∙ ap (λ (m : Merging). m.answer) e;
      record_is = l.record_is ∙ ap (λ (m : Merging). m.content) e;
      contested_are = l.contested_are ∙ ap (λ (m : Merging). m.rows) e;
    }
