-- What `plan_row` and `row_sound` ensure, and the laws of a loop that seeks the first place that fails a test.
use mathlib.Core.Path.{ap}
use Prim.Native.Nat.{ℕ, ◌-◌}
use mathlib.Core.Path.{◌≡◌, refl, sym, ◌∙◌}
use mathlib.Core.Bool.{false, not}
use mathlib.Core.List.{List, [], ◌∷◌}
use Rattle.tables.specs.declared.Refusal.TheVariants.{PlanRow as PlanFault}
use Rattle.tables.specs.Refusals.{unless, first_of, Check}
use Rattle.tables.proofs.Lines.{test_passed, test_failed, passed_more, failed_at, passed_all, line_sound, line_refused, line_last}
use Rattle.grammar.specs.Plan.{plan_row, plan_length_sound}
use Rattle.plan_checks.proofs.check_plan.Goals as goal

-- the line on the plan's length does not apply
past : (plan : List ℕ) {line : Check} → not (plan_length_sound plan) ≡ false → line ≡ first_of (unless (plan_length_sound plan) (PlanFault 0) ∷ line ∷ [])
past plan e = sym (line_sound _ (test_passed {b = plan_length_sound plan} (PlanFault 0) refl e) ∙ line_last _)

pub returns-then-not-plan-rows : goal.returns-then-not-plan-rows
returns-then-not-plan-rows c =
    sym
    (line_refused _ (test_failed {b = plan_length_sound c.args.plan.now} (PlanFault 0) refl (ap not c.if-not-plan-rows.true)))

pub returns-then-not-row_sound : goal.returns-then-not-row_sound
returns-then-not-row_sound c =
    let row = rw c.plan_row.ensures at c.row_sound.ensures in
    failed_at c.loop-k.invariant c.loop-k-test.true row (ap not c.if-not-row_sound.true)
    ∙ past c.args.plan.now (ap not c.if-not-plan-rows.false)

pub loop-k-preserved : goal.loop-k-preserved
loop-k-preserved c =
    let row = rw c.plan_row.ensures at c.row_sound.ensures in
    passed_more c.loop-k.invariant c.loop-k-test.true row (ap not c.if-not-row_sound.false)

pub returns : goal.returns
returns c =
    passed_all c.loop-k.invariant c.loop-k-test.false
    ∙ past c.args.plan.now (ap not c.if-not-plan-rows.false)
