-- Rests on what the checks ensure: the first line that refuses, or a plan that can be run.
use mathlib.Core.Path.{◌≡◌, sym, ap, ◌∙◌}
use native.Mathlib.Omega.{arith}
use Rattle.std.proofs.lemmas.Grind.{common_steps}
use Rattle.tables.specs.Operands.{lend_names}
use Rattle.rules.specs.Calls.{told}
use Rattle.rules.proofs.Answers.{tables_refuse}
use Rattle.tables.specs.declared.Judged.{Judged}
use Rattle.rules.specs.Numbers.{of_verdict}
use Rattle.conditions.proofs.Calling.{judged_in_numbers, plan_refuses, run_record_refuses, plan_runnable, run-answers}
use Rattle.conditions.proofs.calls.run.Goals as goal

-- the same as a record of the clauses
told_in_numbers : {r j : Judged} → r ≡ j → record { value : r ≡ j; verdict_value : of_verdict r.verdict ≡ of_verdict j.verdict }
told_in_numbers e = let p = judged_in_numbers e in record { value = p.0; verdict_value = p.1 }

pub returns-in-Err : goal.returns-in-Err
returns-in-Err c = grind (arith, common_steps, tables_refuse, judged_in_numbers)

pub returns-in-Err-rows : goal.returns-in-Err-rows
returns-in-Err-rows c = grind (arith, common_steps, judged_in_numbers, plan_refuses)

pub returns-in-Err-held : goal.returns-in-Err-held
returns-in-Err-held c =
    told_in_numbers (c.unjudged-in-Err-held.ensures
    ∙ run_record_refuses _ _ _ _ _ _ (sym c.check_lent-lent.ensures ∙ c.in_default.is) _
    (sym c.check_plan-rows.ensures ∙ c.in_default-rows.is)
    (sym c.check_record-held.ensures ∙ c.in-Err-held.is))

pub run_rows-requires : goal.run_rows-requires
run_rows-requires c =
    plan_runnable _ _ _ _ _ _ (sym c.check_lent-lent.ensures ∙ c.in_default.is)
    (sym c.check_plan-rows.ensures ∙ c.in_default-rows.is)
    (sym c.check_record-held.ensures ∙ c.in_default-held.is)

pub returns : goal.returns
returns c = grind (arith, common_steps, judged_in_numbers, plan_runnable, run-answers)
