-- The refusals of a sweep, as they are tried; and what it answers where none is left.
use mathlib.Core.Path.{◌≡◌, refl, sym, ap, ◌∙◌}
use mathlib.Core.Bool.{Bool, true, false, cond, ◌&&◌}
use mathlib.Core.List.{List, [], ◌∷◌, ◌++◌}
use Prim.Native.Nat.{ℕ, ◌+◌, ◌-◌, ◌*◌, ◌/◌, ◌≤◌, ◌<◌}
use native.Mathlib.Omega.{arith}
use native.Mathlib.Nat.{zero-div}
use lib.ListN.{length, take, drop, length-drop}
use lib.Seq.{length-take-le}
use lib.Dec.{eqb, leb}
use Rattle.std.specs.Prelude.{Result, Ok, Err}
use borrow.Author.Tests.{le-leb, lt-leb, eq-eqb, ne_eqb}
use Rattle.tables.specs.declared.Refusal.{Refusal}
use Rattle.tables.specs.declared.Refusal.TheVariants.{Room}
use Rattle.tables.specs.declared.Judged.{Judged}
use Rattle.tables.specs.Operands.{Lent, lend_names}
use Rattle.tables.specs.Refusals.{first_of, Check}
use Rattle.tables.specs.Tables.{record_check}
use Rattle.tables.proofs.Lines.{lines_before, line_sound, line_refused, line_last}
use Rattle.values.specs.Names.{lent_lines}
use Rattle.values.specs.Truth.{outcome}
use Rattle.grammar.specs.Plan.{plan_check, running}
use Rattle.grammar.proofs.Lent.{plan-lent}
use Rattle.rules.specs.Calls.{told, run_gives, room_check}
use Rattle.conditions.proofs.Calling.{run-answers}
use Rattle.runner.specs.Runs.{Runnable}
use Rattle.sweeps.specs.declared.Unswept.{Unswept}
use Rattle.sweeps.specs.declared.Unswept.TheVariants.{Uneven, Refused as Barred}
use Rattle.sweeps.specs.Sweep.{records_of, swept_numbers, evenly, rule_lines, size_check, sweep_by, sweep_gives, Leaves, Sweepable}
use Rattle.sweeps.proofs.Laying.{four_each}
use Rattle.sweeps.proofs.Going.{filled, as_long}

-- 1 to 4 and 18, and then 11
pub rules_refused : (lent : Lent) (plan : List ℕ) {refusal : Refusal} → first_of (lent_lines lent) ≡ Err refusal
    → first_of (rule_lines lent plan) ≡ Err refusal
rules_refused lent plan e = lines_before (lent_lines lent) (plan_check lent plan ∷ []) ∙ line_refused _ e

pub plan_tried : (items literals bytes names plan : List ℕ) → first_of (lent_lines (lend_names items literals bytes names)) ≡ Ok tt → {line : Check}
    → line ≡ plan_check (lend_names items literals [] names) plan → line ≡ first_of (rule_lines (lend_names items literals bytes names) plan)
plan_tried items literals bytes names plan t e =
    let lent = lend_names items literals bytes names in
    e ∙ sym (plan-lent false items literals bytes names plan) ∙ sym (lines_before (lent_lines lent) (plan_check lent plan ∷ []) ∙ line_sound _ t ∙ line_last _)

-- both parts of the rules
pub tables_sound : (lent : Lent) (plan : List ℕ) → first_of (rule_lines lent plan) ≡ Ok tt → first_of (lent_lines lent) ≡ Ok tt
tables_sound lent plan e = by (first_of (lent_lines lent)) refl
  where
    by : (line : Check) → first_of (lent_lines lent) ≡ line → line ≡ Ok tt
    by (Ok _) q = refl
    by (Err refusal) q = sym (rules_refused lent plan q) ∙ e

pub plan_sound : (lent : Lent) (plan : List ℕ) → first_of (rule_lines lent plan) ≡ Ok tt → plan_check lent plan ≡ Ok tt
plan_sound lent plan e =
    sym (lines_before (lent_lines lent) (plan_check lent plan ∷ []) ∙ line_sound _ (tables_sound lent plan e) ∙ line_last _) ∙ e

-- 12, where there is a record
pub held : (lent : Lent) (size : ℕ) (file : List ℕ) → (length file ≡ 0 → ⊥) → {line : Check} → record_check lent (take size file) ≡ line
    → size_check lent size file ≡ line
held lent size file some e = rw (ne_eqb (length file) 0 some) e

empty_list : (numbers : List ℕ) → length numbers ≡ 0 → numbers ≡ []
empty_list [] e = refl
empty_list (n ∷ numbers) e = absurd (omega (arith, e))

module _ (lent : Lent) (plan file : List ℕ) (size switches : ℕ) where
  abbrev numbers : List ℕ
  numbers = swept_numbers lent plan file size switches

  count : length numbers ≡ length file / size * 4
  count = four_each (λ content. run_gives lent plan content switches) (length file / size) size file

  -- a record of a file that can be swept can be run on
  module _ {room : ℕ} (S : Sweepable lent plan file size room) (from : ℕ) (within : from + size ≤ length file) where
    width : from + size - from ≡ size
    width = omega arith

    long : length (take size (drop from file)) ≡ size
    long = length-take-le size (drop from file) (omega (arith, within, length-drop from file))

    some : length file ≡ 0 → ⊥
    some z = omega (arith, within, (filled size (length file) S.sizes).0)

    pub run_record : Runnable lent plan (take size (drop from file))
    run_record =
        let first : record_check lent (take size file) ≡ Ok tt = rw (ne_eqb (length file) 0 some) at S.holds in
        let e : length (take size file) ≡ size = length-take-le size file (omega (arith, within)) in
        record {
          tables = tables_sound lent plan S.rules;
          sound = plan_sound lent plan S.rules;
          holds = as_long lent (take size (drop from file)) (take size file) (long ∙ sym e) ∙ first;
        }

    pub runnable : Runnable lent plan (take (from + size - from) (drop from file))
    runnable = rw width run_record

    pub ran : {judged : Judged} → judged ≡ told (running (outcome lent (take (from + size - from) (drop from file)) switches) plan)
        → judged ≡ run_gives lent plan (take size (drop from file)) switches
    ran e = run-answers lent plan (take (from + size - from) (drop from file)) switches runnable e ∙ ap (λ (n : ℕ). run_gives lent plan (take n (drop from file)) switches) width

  abbrev counted : ℕ → Result ℕ Unswept
  counted n = Ok n

  module _ (output : List ℕ) where
    pub unruly : {refusal : Refusal} → first_of (rule_lines lent plan) ≡ Err refusal → Leaves (sweep_gives lent plan file size switches output) (Err (Barred refusal)) output
    unfolding sweep_gives
    unruly e = rw e (record { answered = refl; left = refl })

    module _ (rules : first_of (rule_lines lent plan) ≡ Ok tt) where
      pub uneven : evenly size (length file) ≡ false → Leaves (sweep_gives lent plan file size switches output) (Err Uneven) output
      unfolding sweep_gives
      uneven e = rw (rules, e) (record { answered = refl; left = refl })

      module _ (sizes : evenly size (length file) ≡ true) where
        swept : {line : Check} → first_of (size_check lent size file ∷ room_check numbers output ∷ []) ≡ line → sweep_gives lent plan file size switches output ≡ sweep_by (Ok tt) true line numbers output
        unfolding sweep_gives
        swept e = rw (rules, sizes, e)

        pub short : {refusal : Refusal} → (length file ≡ 0 → ⊥) → record_check lent (take size file) ≡ Err refusal
            → Leaves (sweep_gives lent plan file size switches output) (Err (Barred refusal)) output
        short some e = rw (swept (line_refused _ (held lent size file some e))) (record { answered = refl; left = refl })

        module _ (holds : size_check lent size file ≡ Ok tt) where
          tried : first_of (size_check lent size file ∷ room_check numbers output ∷ []) ≡ room_check numbers output
          tried = line_sound _ holds ∙ line_last _

          pub lacks_room : length output < length file / size * 4
              → Leaves (sweep_gives lent plan file size switches output) (Err (Barred (Room (length file / size * 4)))) output
          lacks_room l =
              let few = lt-leb (length numbers) (length output) (omega (arith, count)) in
              let line : room_check numbers output ≡ Err (Room (length file / size * 4)) = rw (few, count) in
              rw (swept (tried ∙ line)) (record { answered = refl; left = refl })

          pub written : length file / size * 4 ≤ length output → {after : List ℕ} → after ≡ numbers ++ drop (length file / size * 4) output
              → Leaves (sweep_gives lent plan file size switches output) (Ok (length file / size * 4)) after
          written l e =
              let enough = le-leb (length numbers) (length output) (omega (arith, count)) in
              let line : room_check numbers output ≡ Ok tt = rw enough in
              rw (swept (tried ∙ line)) (record { answered = ap counted (sym count); left = e ∙ ap (λ (n : ℕ). numbers ++ drop n output) (sym count) })

        -- no record, no number
        pub empty : length file ≡ 0 → Leaves (sweep_gives lent plan file size switches output) (Ok 0) output
        empty e =
            let none : length file / size * 4 ≡ 0 = ap (λ (n : ℕ). n / size * 4) e ∙ ap (λ (n : ℕ). n * 4) (zero-div size) in
            let nothing : numbers ≡ [] = empty_list numbers (count ∙ none) in
            let whole : size_check lent size file ≡ Ok tt = rw (eq-eqb (length file) 0 e) in
            rw none at (written whole (omega (arith, none)) {after = output} (rw (nothing, none)))
