-- 1 to 4, 18 and 11, as they are tried.
use mathlib.Core.Path.{sym, ◌∙◌}
use borrow.Author.Rules.{rules}
use native.Mathlib.Omega.{arith}
use Rattle.std.proofs.Common.{◌≡◌, Err}
use Rattle.tables.specs.Operands.{lend_names}
use Rattle.sweeps.proofs.Lines.{rules_refused, plan_tried}
use Rattle.sweeper.proofs.calls.check_rules.Goals as goal

pub returns-in_err-check_lent : goal.returns-in_err-check_lent
returns-in_err-check_lent c =
    let e : c.from_residual.result ≡ Err c.in_err-check_lent.field-0.0 = grind arith in
    rw e (let a = c.args in
    let lent = lend_names a.items.now a.literals.now a.bytes.now a.names.now in
    sym (rules_refused lent a.plan.now (sym c.check_lent.ensures ∙ c.in_err-check_lent.was)))

pub returns : goal.returns
returns c =
    let a = c.args in
    plan_tried a.items.now a.literals.now a.bytes.now a.names.now a.plan.now
    (sym c.check_lent.ensures ∙ c.in_ok-check_lent.was) c.check_plan.ensures
