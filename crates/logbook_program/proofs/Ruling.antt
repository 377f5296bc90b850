-- What the calls answered is what is said and saved.
use Rattle.std.proofs.Common.{◌≡◌, ℕ, ◌+◌, ◌-◌, ◌<◌, ◌≤◌, Bool, true, false, cond, eqb, ◌⊎◌, List, ◌∷◌, ◌++◌, length, take, drop, Result, Ok, sym, refl, ap, ◌∙◌, subst, ⊎_elim, arith, length-take, take_all, take_at, ne_eqb}
use Rattle.tables.specs.declared.Refusal.{Refusal}
use Rattle.tables.specs.declared.Verdict.{Verdict}
use Rattle.tables.specs.declared.Judged.{Judged}
use Rattle.tables.specs.Operands.{Lent}
use Rattle.tables.specs.Refusals.{first_of, Check, Written}
use Rattle.tables.proofs.Lines.{lines_before, lines_sound}
use Rattle.rules.specs.Calls.{run_gives}
use Rattle.lines.specs.Put.{Puts}
use Rattle.mending.specs.Mend.{mended_record, changes, mend_line, mend_by, mending}
use Rattle.merging.specs.declared.Merged.{Merged}
use Rattle.merging.specs.Merge.{Copies, copies_of, merged_record, contested, desk_lines, room_lines, merge_by, merge_gives}
use Rattle.merging.proofs.Accepted.{desk_fine, merged_long}
use Rattle.merger.specs.Desk.{Leaves}
use Rattle.logbook_program.specs.Ruled.{status_of, merge_status, Merges, Mends}
use Rattle.std.specs.Prelude.{Err, Ok}

pub status_of_lem : {given gives : Judged} {v : Verdict} → given ≡ gives → given.verdict ≡ v → status_of v ≡ status_of gives.verdict
status_of_lem e q = ap status_of (sym q ∙ ap (λ (j : Judged). j.verdict) e)

pub some_contested : (n : ℕ) → (n ≡ 0 → ⊥) → 1 ≡ merge_status n
some_contested n h = rw (ne_eqb n 0 h)

pub few_ends : (r n : ℕ) → (r ≡ 2) ⊎ (r ≡ merge_status n) → r ≤ 2
few_ends r n = ⊎_elim (λ e. omega (arith, e)) (λ e. by (eqb n 0) e)
  where
    by : (b : Bool) → r ≡ cond b 0 1 → r ≤ 2
    by true e = omega (arith, e)
    by false e = omega (arith, e)

-- a record that was mended
pub mended : (items content list : List ℕ) {answer : Written} {n : ℕ} {new old : List ℕ} → answer ≡ (mending items content list).answer → answer ≡ Ok n
    → new ≡ (mending items content list).content → content ≡ old → Mends items old new
mended items content list {answer} {n} {new} a q w e =
    by (mend_line items content (length list)) (sym a ∙ q) w ∙ ap (mended_record items) e
  where
    by : (line : Check) → (mend_by line (mended_record items content) (changes items content) content list).answer ≡ Ok n
        → new ≡ (mend_by line (mended_record items content) (changes items content) content list).content → new ≡ mended_record items content
    by (Ok _) f w = w
    by (Err refusal) f w = absurd (let z : ◌≡◌ {A = ℕ} 0 1 = cc in omega arith)

-- a record that is copied whole
pub copied : {out text after : List ℕ} {end : ℕ} → Puts out 0 text end after → length text ≤ length out → take end after ≡ text
copied {out} {text} {after} {end} P h =
    let whole : take (length out - 0) text ≡ text = take_all (length out - 0) text (omega arith) in
    let size : length text ≡ end = sym (P.ends ∙ ap (λ (l : List ℕ). 0 + length l) whole ∙ (omega arith)) in
    ap (take end) (P.stands ∙ ap (λ (l : List ℕ). l ++ drop end out) whole) ∙ take_at text (drop end out) end size

-- what a merge counted, 0 where it was refused
abbrev bytes_of : Result Merged Refusal → ℕ
bytes_of (Ok merged) = merged.bytes
bytes_of (Err refusal) = 0

abbrev rows_of : Result Merged Refusal → ℕ
rows_of (Ok merged) = merged.rows
rows_of (Err refusal) = 0

-- a merge that gave counts
module _ (lent : Lent) (plan : List ℕ) (switches : ℕ) (old first second out list : List ℕ) {answer : Result Merged Refusal} {content rows : List ℕ} {n m : ℕ}
    (L : Leaves (merge_gives lent plan switches old first second out list) answer content rows) (q : answer ≡ Ok (record { bytes = n; rows = m })) where
  abbrev copies : Copies
  copies = copies_of lent.items old first second

  abbrev verdict : Verdict
  verdict = (run_gives lent plan first switches).verdict

  abbrev lines : List Check
  lines = room_lines (length old) (length (contested copies verdict)) out list

  pub merged_so : Merges lent plan switches old first second (take n content) (take m rows)
  merged_so = by (first_of (desk_lines lent plan old first second ++ lines)) refl (sym L.answered ∙ q) L.record_is L.contested_are
    where
      by : (line : Check) → first_of (desk_lines lent plan old first second ++ lines) ≡ line
          → (merge_by line (length old) (merged_record copies verdict) (contested copies verdict) out list).answer ≡ Ok (record { bytes = n; rows = m })
          → content ≡ (merge_by line (length old) (merged_record copies verdict) (contested copies verdict) out list).content
          → rows ≡ (merge_by line (length old) (merged_record copies verdict) (contested copies verdict) out list).rows
          → Merges lent plan switches old first second (take n content) (take m rows)
      by (Ok _) s a c r =
          let desk : first_of (desk_lines lent plan old first second) ≡ Ok tt =
          (lines_sound (first_of (desk_lines lent plan old first second) ∷ lines) (sym (lines_before (desk_lines lent plan old first second) lines) ∙ s)).0 in
          let size : length (merged_record copies verdict) ≡ n =
          merged_long copies verdict (desk_fine lent plan old first second desk) ∙ ap bytes_of a in
          let count : length (contested copies verdict) ≡ m = ap rows_of a in
          record {
            saved = ap (take n) c ∙ take_at (merged_record copies verdict) (drop (length old) out) n size;
            listed = ap (take m) r ∙ take_at (contested copies verdict) (drop (length (contested copies verdict)) list) m count;
          }
      by (Err refusal) s a c r = absurd (let z : ◌≡◌ {A = ℕ} 0 1 = cc in omega arith)
