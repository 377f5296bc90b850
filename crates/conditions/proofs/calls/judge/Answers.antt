-- Rests on what `prepare` ensures, on the record's check, and on the run of a tree's rows, which judges the tree.
use mathlib.Core.Path.{◌≡◌, sym, ◌∙◌}
use native.Mathlib.Omega.{arith}
use Rattle.std.proofs.lemmas.Grind.{common_steps}
use Rattle.preparer.proofs.Ready.{few_prepared, row_numbers_lem}
use Rattle.tables.specs.declared.Judged.{Judged}
use Rattle.rules.specs.Numbers.{of_verdict}
use Rattle.conditions.proofs.Calling.{judged_in_numbers, judge_refused, judge_record_refuses, rows_runnable, judge_answers}
use Rattle.conditions.proofs.calls.judge.Goals as goal

-- the same as a record of the clauses
told_in_numbers : {r j : Judged} → r ≡ j → record { value : r ≡ j; verdict_value : of_verdict r.verdict ≡ of_verdict j.verdict }
told_in_numbers e = let p = judged_in_numbers e in record { value = p.0; verdict_value = p.1 }

pub returns-in-Err-held : goal.returns-in-Err-held
returns-in-Err-held c =
    told_in_numbers (c.unjudged-in-Err-held.ensures ∙ judge_record_refuses c.prepare-prepared.ensures c.in-Ok.is _ _
    (sym c.check_record-held.ensures ∙ c.in-Err-held.is))

pub overflow_mul-end : goal.overflow_mul-end
overflow_mul-end c = omega (arith, few_prepared c.prepare-prepared.ensures c.in-Ok.is)

pub slice_bounds-rows-end : goal.slice_bounds-rows-end
slice_bounds-rows-end c = omega (arith, few_prepared c.prepare-prepared.ensures c.in-Ok.is)

pub slice_bounds-run_rows-end : goal.slice_bounds-run_rows-end
slice_bounds-run_rows-end c = row_numbers_lem c.prepare-prepared.ensures c.in-Ok.is

pub run_rows-requires : goal.run_rows-requires
run_rows-requires c =
    rows_runnable c.prepare-prepared.ensures c.in-Ok.is _
    (sym c.check_record-held.ensures ∙ c.in_default.is)

pub returns-in-Err : goal.returns-in-Err
returns-in-Err c = told_in_numbers (c.unjudged.ensures ∙ judge_refused c.prepare-prepared.ensures c.in-Err.is _ _)

pub returns-in_default : goal.returns-in_default
returns-in_default c =
    told_in_numbers (judge_answers c.prepare-prepared.ensures c.in-Ok.is _ _
    (sym c.check_record-held.ensures ∙ c.in_default.is)
    c.run_rows.ensures)
