-- Each line that passed, and the first that did not.
use mathlib.Core.Path.{sym, ◌∙◌}
use native.Mathlib.Omega.{arith}
use Rattle.std.proofs.Common.{◌≡◌, Err}
use Rattle.merger.proofs.Desk.{Passed, lent_refuses, overlap_refuses, lengths_refuse, plan_refuses, record_decides}
use Rattle.merger.proofs.calls.check_desk.Goals as goal

pub returns-in_err-check_lent : goal.returns-in_err-check_lent
returns-in_err-check_lent c =
    let e : c.from_residual.result ≡ Err c.in_err-check_lent.field-0.0 = grind arith in
    rw e (let a = c.args in
    sym (lent_refuses a.items.now a.literals.now a.bytes.now a.names.now a.plan.now a.old.now a.first.now a.second.now
    (sym c.check_lent.ensures ∙ c.in_err-check_lent.was)))

pub returns-in_err-check_overlap : goal.returns-in_err-check_overlap
returns-in_err-check_overlap c =
    let e : c.from_residual-in_err-check_overlap.result ≡ Err c.in_err-check_overlap.field-0.0 = grind arith in
    rw e (let a = c.args in
    let lent = sym c.check_lent.ensures ∙ c.in_ok-check_lent.was in
    sym (overlap_refuses a.items.now a.literals.now a.bytes.now a.names.now a.plan.now a.old.now a.first.now a.second.now lent
    (sym c.check_overlap.ensures ∙ c.in_err-check_overlap.was)))

pub returns-in_err-check_lengths : goal.returns-in_err-check_lengths
returns-in_err-check_lengths c =
    let e : c.from_residual-in_err-check_lengths.result ≡ Err c.in_err-check_lengths.field-0.0 = grind arith in
    rw e (let a = c.args in
    let lent = sym c.check_lent.ensures ∙ c.in_ok-check_lent.was in
    let overlap = sym c.check_overlap.ensures ∙ c.in_ok-check_overlap.was in
    sym (lengths_refuse a.items.now a.literals.now a.bytes.now a.names.now a.plan.now a.old.now a.first.now a.second.now lent overlap
    (sym c.check_lengths.ensures ∙ c.in_err-check_lengths.was)))

pub returns-in_err-check_plan : goal.returns-in_err-check_plan
returns-in_err-check_plan c =
    let e : c.from_residual-in_err-check_plan.result ≡ Err c.in_err-check_plan.field-0.0 = grind arith in
    rw e (let passed : (Passed c.args.items.now c.args.literals.now c.args.bytes.now c.args.names.now c.args.plan.now
    c.args.old.now c.args.first.now c.args.second.now) = (record {
      tables = sym c.check_lent.ensures ∙ c.in_ok-check_lent.was;
      apart = sym c.check_overlap.ensures ∙ c.in_ok-check_overlap.was;
      long = sym c.check_lengths.ensures ∙ c.in_ok-check_lengths.was;
    }) in
    sym (plan_refuses passed (sym c.check_plan.ensures ∙ c.in_err-check_plan.was)))

pub returns : goal.returns
returns c =
    let passed : (Passed c.args.items.now c.args.literals.now c.args.bytes.now c.args.names.now c.args.plan.now
    c.args.old.now c.args.first.now c.args.second.now) = (record {
      tables = sym c.check_lent.ensures ∙ c.in_ok-check_lent.was;
      apart = sym c.check_overlap.ensures ∙ c.in_ok-check_overlap.was;
      long = sym c.check_lengths.ensures ∙ c.in_ok-check_lengths.was;
    }) in
    record_decides passed (sym c.check_plan.ensures ∙ c.in_ok-check_plan.was) c.check_record.ensures
