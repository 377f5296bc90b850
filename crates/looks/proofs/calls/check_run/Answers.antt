-- Each line that passed, and the first that did not.
use mathlib.Core.Path.{sym, ◌∙◌}
use native.Mathlib.Omega.{arith}
use Rattle.std.proofs.Common.{◌≡◌, Err}
use Rattle.look_lists.proofs.Looking.{tables_line, plan_line_lem, record_line}
use Rattle.looks.proofs.calls.check_run.Goals as goal

pub returns-in_err-check_lent : goal.returns-in_err-check_lent
returns-in_err-check_lent c =
    let e : c.from_residual.result ≡ Err c.in_err-check_lent.field-0.0 = grind arith in
    rw e (let a = c.args in
    tables_line a.items.now a.literals.now a.bytes.now a.names.now a.plan.now a.«record».now
    (sym c.check_lent.ensures ∙ c.in_err-check_lent.was))

pub returns-in_err-check_plan : goal.returns-in_err-check_plan
returns-in_err-check_plan c =
    let e : c.from_residual-in_err-check_plan.result ≡ Err c.in_err-check_plan.field-0.0 = grind arith in
    rw e (let a = c.args in
    plan_line_lem a.items.now a.literals.now a.bytes.now a.names.now a.plan.now a.«record».now
    (sym c.check_lent.ensures ∙ c.in_ok-check_lent.was) c.check_plan.ensures c.in_err-check_plan.was)

pub returns : goal.returns
returns c =
    let a = c.args in
    c.check_record.ensures
    ∙ record_line a.items.now a.literals.now a.bytes.now a.names.now a.plan.now a.«record».now
    (sym c.check_lent.ensures ∙ c.in_ok-check_lent.was) c.check_plan.ensures c.in_ok-check_plan.was
