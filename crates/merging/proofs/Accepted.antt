-- Copies that no line refuses: what each item and every other byte becomes. Assumes nothing.
use Prim.Native.Nat.{ℕ, zero, suc, ◌+◌, ◌-◌, ◌≤◌, ◌<◌}
use native.Mathlib.Omega.{arith}
use native.Mathlib.Decide.{dec_lt}
use mathlib.Core.Path.{◌≡◌, refl, sym, ap, subst, ◌∙◌}
use mathlib.Core.List.Memᴰ
use mathlib.Core.List.{List, [], ◌∷◌, Memᴰ}
use mathlib.Core.Logic.{◌⊎◌, inl, inr, ⊎_elim}
use mathlib.Core.Bool.{Bool, true, false, ◌&&◌}
use lib.Dec.{eqb}
use lib.ListN.{length, get_or}
use borrow.Author.Tests.{eqb-true}
use Rattle.tables.specs.declared.Refusal.TheVariants.{Lengths}
use Rattle.content.specs.declared.Row.{Row}
use Rattle.tables.specs.declared.Verdict.{Verdict}
use Rattle.tables.specs.declared.Verdict.TheVariants.{True, False, Refused as Stopped}
use Rattle.tables.specs.Rows.{row_at, row_count}
use Rattle.tables.specs.Operands.{Lent}
use Rattle.tables.specs.Refusals.{first_of, Check}
use Rattle.tables.proofs.Tests.{both}
use Rattle.tables.proofs.Lines.{lines_before, lines_sound, test_sound}
use Rattle.tables.proofs.Bytes.{part_length}
use Rattle.values.specs.Names.{lent_lines}
use Rattle.grammar.specs.Plan.{plan_check}
use Rattle.items.specs.Items.{elementary_at, part_at, replaced, rewritten}
use Rattle.items.specs.Lines.{overlap_check, long_check}
use Rattle.items.proofs.Rewriting.{Lies, Clear, Sized, replaced_inside, replaced_outside, part_byte, step_item, step-group, rewritten-length, rewritten_outside, rewritten-part}
use Rattle.items.proofs.Facts.{clear_fact, lies_fact}
use Rattle.merging.specs.Merge.{Copies, copies_of, decided, apart_at, merged_item, merged_at, merged_record, contested, length_check, desk_lines}
use Rattle.merging.specs.Theorems.{Merges, MergesAsSaid, Contests, ContestsAsSaid}
use Rattle.merging.proofs.OneItem.{only_first, only_second, alike, apart-decided, merged_length, one_of}
use Rattle.merging.proofs.Rows.{rows_all, rows_only}
use Rattle.std.specs.Prelude.{Ok}

-- what the lines say where none refuses
pub record Fine (copies : Copies) : Type 0 where
  pub clear : Clear copies.items (row_count copies.items)
  pub first_long : length copies.first ≡ length copies.old
  pub second_long : length copies.second ≡ length copies.old
  pub lies : Lies copies.items (length copies.old) (row_count copies.items)

pub length_fact : (old first second : List ℕ) → length_check old first second ≡ Ok tt
    → (length first ≡ length old) × (length second ≡ length old)
length_fact old first second e =
    let b = both (eqb (length first) (length old)) (eqb (length second) (length old)) (test_sound _ Lengths e) in
    (eqb-true _ _ b.0, eqb-true _ _ b.1)

pub desk_fine : (lent : Lent) (plan old first second : List ℕ) → first_of (desk_lines lent plan old first second) ≡ Ok tt
    → Fine (copies_of lent.items old first second)
desk_fine lent plan old first second e =
    let rest : List Check =
    overlap_check lent.items ∷ length_check old first second ∷ plan_check lent plan ∷ long_check lent.items old ∷ [] in
    let all = lines_sound (first_of (lent_lines lent) ∷ rest) (sym (lines_before (lent_lines lent) rest) ∙ e) in
    let lengths = length_fact old first second all.1.1.0 in
    record {
      clear = clear_fact lent.items all.1.0;
      first_long = lengths.0;
      second_long = lengths.1;
      lies = lies_fact lent.items old all.1.1.1.1.0;
    }

module _ (copies : Copies) (verdict : Verdict) (fine : Fine copies) where
  sized : Sized copies.items (merged_at copies verdict) (row_count copies.items)
  sized v h e =
      let inside : (row_at copies.items v).offset + (row_at copies.items v).size ≤ length copies.old = fine.lies v h e in
      merged_length verdict (part_at copies.items v copies.old) (part_at copies.items v copies.first) (part_at copies.items v copies.second)
      (row_at copies.items v).size
      (part_length (row_at copies.items v) copies.old inside)
      (part_length (row_at copies.items v) copies.first (omega (arith, inside, fine.first_long)))
      (part_length (row_at copies.items v) copies.second (omega (arith, inside, fine.second_long)))

  pub merged_long : length (merged_record copies verdict) ≡ length copies.old
  merged_long = rewritten-length copies.items (merged_at copies verdict) copies.old (row_count copies.items) fine.lies sized

  item_merged : (v : ℕ) → v < row_count copies.items → elementary_at copies.items v ≡ true
      → part_at copies.items v (merged_record copies verdict) ≡ merged_at copies verdict v
  item_merged v there elementary =
      rewritten-part copies.items (merged_at copies verdict) copies.old (row_count copies.items) fine.lies sized fine.clear v there elementary

  -- a byte of an item's new content, in the copy that it stems from
  abbrev From : ℕ → ℕ → Type 0
  From b o = (b ≡ get_or copies.old o 0) ⊎ ((b ≡ get_or copies.first o 0) ⊎ (b ≡ get_or copies.second o 0))

  from_item : (v j : ℕ) → j < (row_at copies.items v).size → From (get_or (merged_at copies verdict v) j 0) ((row_at copies.items v).offset + j)
  from_item v j h =
      let r = row_at copies.items v in
      let byte : (content : List ℕ) → merged_at copies verdict v ≡ part_at copies.items v content
      → get_or (merged_at copies verdict v) j 0 ≡ get_or content (r.offset + j) 0 =
      λ content e. ap (λ (l : List ℕ). get_or l j 0) e ∙ part_byte r content j h in
      ⊎_elim
      (λ e. inl (byte copies.old e))
      (λ more. inr (⊎_elim (λ e. inl (byte copies.first e)) (λ e. inr (byte copies.second e)) more))
      (one_of verdict (part_at copies.items v copies.old) (part_at copies.items v copies.first) (part_at copies.items v copies.second))

  -- after the first n rows every byte stems from a copy: one row more replaces its own bytes
  stems_below : (n : ℕ) → n ≤ row_count copies.items → (o : ℕ)
      → From (get_or (rewritten copies.items (merged_at copies verdict) copies.old n) o 0) o
  unfolding rewritten
  stems_below zero h o = inl refl
  stems_below (suc v) h o = by (elementary_at copies.items v) refl (stems_below v (omega arith) o)
    where
      so_far : List ℕ
      so_far = rewritten copies.items (merged_at copies verdict) copies.old v

      moved : (b c : ℕ) → b ≡ c → From c o → From b o
      moved b c e = ⊎_elim (λ f. inl (e ∙ f)) (λ more. inr (⊎_elim (λ f. inl (e ∙ f)) (λ f. inr (e ∙ f)) more))

      long : length so_far ≡ length copies.old
      long =
          rewritten-length copies.items (merged_at copies verdict) copies.old v
          (λ u k. fine.lies u (omega arith)) (λ u k. sized u (omega arith))

      by : (b : Bool) → elementary_at copies.items v ≡ b → From (get_or so_far o 0) o
          → From (get_or (rewritten copies.items (merged_at copies verdict) copies.old (suc v)) o 0) o
      by false e rest = moved _ (get_or so_far o 0) (ap (λ (l : List ℕ). get_or l o 0) (step-group copies.items (merged_at copies verdict) copies.old v e)) rest
      by true e rest = within (dec_lt o r.offset) (dec_lt o (r.offset + r.size))
        where
          r : Row
          r = row_at copies.items v

          inside : r.offset + r.size ≤ length so_far
          inside = omega (arith, long, fine.lies v (omega arith) e)

          step : get_or (rewritten copies.items (merged_at copies verdict) copies.old (suc v)) o 0 ≡ get_or (replaced r (merged_at copies verdict v) so_far) o 0
          step = ap (λ (l : List ℕ). get_or l o 0) (step_item copies.items (merged_at copies verdict) copies.old v e)

          within : Dec (o < r.offset) → Dec (o < r.offset + r.size)
              → From (get_or (rewritten copies.items (merged_at copies verdict) copies.old (suc v)) o 0) o
          within (yes p) q =
              moved _ (get_or so_far o 0) (step ∙ replaced_outside r (merged_at copies verdict v) so_far (sized v (omega arith) e) inside o (inl p)) rest
          within (no p) (no q) =
              moved _ (get_or so_far o 0) (step ∙ replaced_outside r (merged_at copies verdict v) so_far (sized v (omega arith) e) inside o (inr (omega arith))) rest
          within (no p) (yes q) =
              let j : ℕ = o - r.offset in
              let at : o ≡ r.offset + j = omega arith in
              let new : get_or (replaced r (merged_at copies verdict v) so_far) o 0 ≡ get_or (merged_at copies verdict v) j 0 =
              ap (λ (k : ℕ). get_or (replaced r (merged_at copies verdict v) so_far) k 0) at
              ∙ replaced_inside r (merged_at copies verdict v) so_far (sized v (omega arith) e) inside j (omega arith) in
              let there : From (get_or (merged_at copies verdict v) j 0) o = subst (λ (k : ℕ). From (get_or (merged_at copies verdict v) j 0) k) (sym at) (from_item v j (omega arith)) in
              moved _ (get_or (merged_at copies verdict v) j 0) (step ∙ new) there

  pub merges : Merges copies verdict
  merges =
      record {
        long = rewritten-length copies.items (merged_at copies verdict) copies.old (row_count copies.items) fine.lies sized;
        others = rewritten_outside copies.items (merged_at copies verdict) copies.old (row_count copies.items) fine.lies sized;
        by_first = λ v h e p. item_merged v h e ∙ only_first verdict _ _ _ p;
        by_second = λ v h e p. item_merged v h e ∙ only_second verdict _ _ _ p;
        alike = λ v h e p. item_merged v h e ∙ alike verdict _ _ _ p;
        apart = λ v h e a. item_merged v h e ∙ apart-decided verdict _ _ _ (both (elementary_at copies.items v) _ a).1;
        stems = stems_below (row_count copies.items) (omega arith);
      }

pub merges_as_said : MergesAsSaid
merges_as_said lent plan old first second e verdict = merges (copies_of lent.items old first second) verdict (desk_fine lent plan old first second e)

pub contests_as_said : ContestsAsSaid
contests_as_said copies =
    record {
      all = λ refusal. rows_all (apart_at copies) (row_count copies.items);
      only = λ verdict. by verdict;
    }
  where
    by : (verdict : Verdict) (v : ℕ) → Memᴰ v (contested copies verdict) → (v < row_count copies.items) × (apart_at copies v ≡ true)
    by True v m = absurd (Memᴰ.not-nil m)
    by False v m = absurd (Memᴰ.not-nil m)
    by (Stopped refusal) v m = rows_only (apart_at copies) (row_count copies.items) v m
