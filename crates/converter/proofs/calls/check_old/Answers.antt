-- The lines 1 to 4, 18 and 11, tried in order.
use mathlib.Core.Path.{sym, ◌∙◌}
use native.Mathlib.Omega.{arith}
use Rattle.std.proofs.Common.{◌≡◌, Err}
use Rattle.converter.proofs.Calling.{lent_refused, plan_tried}
use Rattle.converter.proofs.calls.check_old.Goals as goal

pub returns-in_err-check_lent : goal.returns-in_err-check_lent
returns-in_err-check_lent c =
    let e : c.from_residual.result ≡ Err c.in_err-check_lent.field-0.0 = grind arith in
    rw e (let a = c.args in
    lent_refused a.items.now a.literals.now a.bytes.now a.names.now a.plan.now
    (sym c.check_lent.ensures ∙ c.in_err-check_lent.was))

pub returns : goal.returns
returns c =
    let a = c.args in
    plan_tried a.items.now a.literals.now a.bytes.now a.names.now a.plan.now
    (sym c.check_lent.ensures ∙ c.in_ok-check_lent.was) c.check_plan.ensures
