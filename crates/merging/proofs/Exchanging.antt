-- The copies exchanged. Assumes nothing.
use Prim.Native.Nat.{ℕ, ◌<◌}
use mathlib.Core.Path.{◌≡◌, refl, sym, ap, ◌∙◌}
use mathlib.Core.List.{List, [], ◌∷◌, ◌++◌}
use mathlib.Core.Bool.{Bool, true, false, ◌&&◌, and_comm}
use lib.Dec.{eqb}
use lib.ListN.{length}
use Rattle.tables.specs.declared.Refusal.TheVariants.{Lengths}
use Rattle.tables.specs.declared.Verdict.{Verdict}
use Rattle.tables.specs.declared.Verdict.TheVariants.{True, False, Refused as Stopped}
use Rattle.tables.specs.Rows.{row_count}
use Rattle.tables.specs.Operands.{Lent}
use Rattle.tables.specs.Refusals.{unless, Check}
use Rattle.values.specs.Names.{lent_lines}
use Rattle.grammar.specs.Plan.{plan_check}
use Rattle.rules.specs.Calls.{run_gives}
use Rattle.items.specs.Items.{elementary_at, part_at}
use Rattle.items.specs.Lines.{overlap_check, long_check}
use Rattle.items.proofs.Rewriting.{rewritten-same}
use Rattle.merging.specs.Merge.{Copies, copies_of, changed_apart, apart_at, merged_at, merged_record, contested, length_check, desk_lines, Merging, merge_with}
use Rattle.merging.specs.Theorems.{NoneApart, Exchangeable}
use Rattle.merging.proofs.OneItem.{item_exchange, apart_comm}
use Rattle.merging.proofs.Rows.{rows_none}

pub none_contested : (copies : Copies) → NoneApart copies → (verdict : Verdict) → contested copies verdict ≡ []
none_contested copies none True = refl
none_contested copies none False = refl
none_contested copies none (Stopped x) = rows_none (apart_at copies) (row_count copies.items) none

module _ (items old first second : List ℕ) (none : NoneApart (copies_of items old first second)) where
  none_exchanged : NoneApart (copies_of items old second first)
  none_exchanged v h =
      ap (λ (b : Bool). elementary_at items v && b) (apart_comm (part_at items v old) (part_at items v second) (part_at items v first)) ∙ none v h

  not_apart : (v : ℕ) → v < row_count items → elementary_at items v ≡ true
      → changed_apart (part_at items v old) (part_at items v first) (part_at items v second) ≡ false
  not_apart v h e =
      ap (λ (b : Bool). b && changed_apart (part_at items v old) (part_at items v first) (part_at items v second)) (sym e) ∙ none v h

  record_exchange : (verdict other : Verdict) → merged_record (copies_of items old first second) verdict ≡ merged_record (copies_of items old second first) other
  record_exchange verdict other =
      rewritten-same items (merged_at (copies_of items old first second) verdict) (merged_at (copies_of items old second first) other) old (row_count items)
      (λ v h e. item_exchange verdict other (part_at items v old) (part_at items v first) (part_at items v second) (not_apart v h e))

  pub with_exchange : (lines : List Check) (verdict other : Verdict) (out list : List ℕ)
      → merge_with lines (copies_of items old first second) verdict out list ≡ merge_with lines (copies_of items old second first) other out list
  with_exchange lines verdict other out list =
      rw (
        none_contested (copies_of items old first second) none verdict,
        none_contested (copies_of items old second first) none_exchanged other,
        record_exchange verdict other,
      )

-- where no item was changed apart, the run's verdict does not matter
pub any_verdict : (items old first second : List ℕ) → NoneApart (copies_of items old first second) → (lines : List Check) (verdict other : Verdict)
    (out list : List ℕ)
    → merge_with lines (copies_of items old first second) verdict out list ≡ merge_with lines (copies_of items old first second) other out list
any_verdict items old first second none lines verdict other out list =
    with_exchange items old first second none lines verdict other out list
    ∙ sym (with_exchange items old first second none lines other other out list)

lines_exchange : (lent : Lent) (plan old first second : List ℕ) → desk_lines lent plan old first second ≡ desk_lines lent plan old second first
lines_exchange lent plan old first second =
    ap (λ (line : Check). lent_lines lent ++ overlap_check lent.items ∷ line ∷ plan_check lent plan ∷ long_check lent.items old ∷ [])
    (ap (λ (b : Bool). unless b Lengths) (and_comm (eqb (length first) (length old)) (eqb (length second) (length old))))

pub exchangeable : Exchangeable
exchangeable lent plan switches old first second out list none =
    with_exchange lent.items old first second none (desk_lines lent plan old first second) (run_gives lent plan first switches).verdict
    (run_gives lent plan second switches).verdict out list
    ∙ ap (λ (lines : List Check). merge_with lines (copies_of lent.items old second first) (run_gives lent plan second switches).verdict out list)
    (lines_exchange lent plan old first second)
