-- Rests on what `check_old` and `write_plan` ensure: a sound plan is as long as the converted one.
use native.Mathlib.Omega.{arith}
use Rattle.std.proofs.Common.{◌≡◌, Err}
use Rattle.converter.proofs.Calling.{plan_refused, plan_size, plan_no_room, plan-written}
use Rattle.converter.proofs.calls.convert_plan.Goals as goal

pub returns-in_err-check_old : goal.returns-in_err-check_old
returns-in_err-check_old c =
    let e : c.from_residual.result ≡ Err c.in_err-check_old.field-0.0 = grind arith in
    rw e (let a = c.args in
    plan_refused a.items.now a.literals.now a.bytes.now a.names.now a.plan.now a.output.now c.check_old.ensures c.in_err-check_old.was)

pub returns-then-output-needed : goal.returns-then-output-needed
returns-then-output-needed c =
    let a = c.args in
    let tried = c.check_old.ensures in
    let sound = c.in_ok-check_old.was in
    let size = plan_size a.items.now a.literals.now a.bytes.now a.names.now a.plan.now a.output.now tried sound in
    plan_no_room a.items.now a.literals.now a.bytes.now a.names.now a.plan.now a.output.now tried sound size c.if-output-needed.true

pub write_plan-requires : goal.write_plan-requires
write_plan-requires c =
    let a = c.args in
    let size = plan_size a.items.now a.literals.now a.bytes.now a.names.now a.plan.now a.output.now c.check_old.ensures c.in_ok-check_old.was in
    omega (arith, size, c.if-output-needed.false)

pub returns : goal.returns
returns c =
    let a = c.args in
    let tried = c.check_old.ensures in
    let sound = c.in_ok-check_old.was in
    let size = plan_size a.items.now a.literals.now a.bytes.now a.names.now a.plan.now a.output.now tried sound in
    let room = c.if-output-needed.false in
    plan-written a.items.now a.literals.now a.bytes.now a.names.now a.plan.now a.output.now tried sound size room c.write_plan.ensures
