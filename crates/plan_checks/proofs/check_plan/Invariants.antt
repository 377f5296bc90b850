-- What `plan_row` and `row_sound` ensure, and the laws of a loop that seeks the first place that fails a test.
use mathlib.Core.List.{[]}
use Rattle.tables.specs.declared.Refusal.TheVariants.{PlanRow as PlanFault}
use Rattle.tables.specs.Operands.{lend_names, under}
use Rattle.tables.proofs.Lines.{Passed}
use Rattle.grammar.specs.Plan.{plan_row, plan_row_sound}
use Rattle.plan_checks.proofs.check_plan.Given as goal

abbrev pub invariant-loop-k : goal.invariant-loop-k
invariant-loop-k l = Passed (λ v. plan_row_sound (under l.off (lend_names l.items l.literals [] l.names)) l.rows v (plan_row l.plan v)) PlanFault l.rows l.k
