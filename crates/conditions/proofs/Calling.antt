-- What judge and run answer, one law for each of their returns.
use mathlib.Core.Path.{◌≡◌, sym, ap, ◌∙◌}
use mathlib.Core.Bool.{false}
use mathlib.Core.List.{List, []}
use Prim.Native.Nat.{ℕ, ◌*◌}
use lib.ListN.{take}
use Rattle.tables.specs.declared.Refusal.{Refusal}
use Rattle.tables.specs.declared.Judged.{Judged}
use Rattle.tables.specs.declared.Verdict.TheVariants.{Refused as Unjudged}
use Rattle.tables.specs.Operands.{Lent, lend_names}
use Rattle.tables.specs.Refusals.{first_of, Check}
use Rattle.tables.specs.Tables.{record_check}
use Rattle.values.specs.Names.{lent_lines}
use Rattle.tables.proofs.Lines.{line_refused}
use Rattle.values.specs.Truth.{outcome}
use Rattle.grammar.specs.Plan.{plan_check, running}
use Rattle.grammar.proofs.Lent.{plan-lent}
use Rattle.rules.specs.Numbers.{of_verdict}
use Rattle.rules.specs.Calls.{told, judge_gives, run_gives}
use Rattle.rules.proofs.Passing.{tables_pass}
use Rattle.rules.proofs.Answers.{judges_as, plan-passes, run_judges, after_tables, after-plan}
use Rattle.preparer.specs.Prepared.{Prepares}
use Rattle.runner.specs.Runs.{Runnable}
use Rattle.preparer.proofs.Ready.{unready, ready}
use Rattle.std.specs.Prelude.{Err, Ok, Result}

-- nothing was judged
abbrev none : Refusal → Judged
none refusal = record { verdict = Unjudged refusal; count = 0 }

-- a plan that can be run
pub run-answers : (lent : Lent) (plan content : List ℕ) (switches : ℕ) → Runnable lent plan content → {v : Judged} →
    v ≡ told (running (outcome lent content switches) plan) → v ≡ run_gives lent plan content switches
run-answers lent plan content switches p e = e ∙ sym (ap told (after-plan lent plan content switches p.tables p.sound) ∙ rw p.holds)

-- the check of a plan is lent no literal bytes
module _ (items literals bytes names plan content : List ℕ) (t : first_of (lent_lines (lend_names items literals bytes names)) ≡ Ok tt) where
  plan_line_lem : {line : Check} → plan_check (lend_names items literals [] names) plan ≡ line → plan_check (lend_names items literals bytes names) plan ≡ line
  plan_line_lem e = plan-lent false items literals bytes names plan ∙ e

  pub plan_refuses : (switches : ℕ) {refusal : Refusal} → plan_check (lend_names items literals [] names) plan ≡ Err refusal →
      none refusal ≡ run_gives (lend_names items literals bytes names) plan content switches
  plan_refuses switches e = sym (ap told (after_tables (lend_names items literals bytes names) plan content switches t) ∙ rw (line_refused _ (plan_line_lem e)))

  pub run_record_refuses : (switches : ℕ) → plan_check (lend_names items literals [] names) plan ≡ Ok tt → {refusal : Refusal} →
      record_check (lend_names items literals bytes names) content ≡ Err refusal → none refusal ≡ run_gives (lend_names items literals bytes names) plan content switches
  run_record_refuses switches e h = sym (ap told (after-plan (lend_names items literals bytes names) plan content switches t (plan_line_lem e)) ∙ rw h)

  pub plan_runnable : plan_check (lend_names items literals [] names) plan ≡ Ok tt → record_check (lend_names items literals bytes names) content ≡ Ok tt →
      Runnable (lend_names items literals bytes names) plan content
  plan_runnable e h = record { tables = t; sound = plan_line_lem e; holds = h }

-- the same answer in this paper's numbers
pub judged_in_numbers : {r j : Judged} → r ≡ j → (r ≡ j) × (of_verdict r.verdict ≡ of_verdict j.verdict)
judged_in_numbers e = (e, ap (λ (j : Judged). of_verdict j.verdict) e)

-- what is prepared is a refusal
module _ {lent : Lent} {tokens : List ℕ} {r : Result ℕ Refusal} {before after : List ℕ} (p : Prepares lent tokens r before after) {refusal : Refusal} (e : r ≡ Err refusal) where
  pub judge_refused : (content : List ℕ) (switches : ℕ) → none refusal ≡ judge_gives lent tokens content switches
  judge_refused content switches = sym ((unready p e).judge content switches)

-- what is prepared is rows
module _ {lent : Lent} {tokens : List ℕ} {r : Result ℕ Refusal} {before after : List ℕ} (p : Prepares lent tokens r before after) {count : ℕ} (e : r ≡ Ok count) where
  pub judge_record_refuses : (content : List ℕ) (switches : ℕ) {refusal : Refusal} → record_check lent content ≡ Err refusal →
      none refusal ≡ judge_gives lent tokens content switches
  judge_record_refuses content switches h = sym (ap told (judges_as (ready p e).passes content switches) ∙ rw h)

  pub rows_runnable : (content : List ℕ) → record_check lent content ≡ Ok tt → Runnable lent (take (count * 5) after) content
  rows_runnable content h = let y = ready p e in rw y.rows (record { tables = tables_pass y.passes; sound = plan-passes y.passes; holds = h })

  pub judge_answers : (content : List ℕ) (switches : ℕ) → record_check lent content ≡ Ok tt → {v : Judged} →
      v ≡ told (running (outcome lent content switches) (take (count * 5) after)) → v ≡ judge_gives lent tokens content switches
  judge_answers content switches h w =
      let y = ready p e in
      w
      ∙ ap (λ plan. told (running (outcome lent content switches) plan)) y.rows
      ∙ ap told (run_judges y.passes content switches)
      ∙ sym (ap told (judges_as y.passes content switches) ∙ rw h)
