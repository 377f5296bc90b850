-- Rests on what `prepare` ensures, on the record's check, and on the run of a tree's rows, which judges the tree.
use mathlib.Core.Path.{sym, ◌∙◌}
use native.Mathlib.Omega.{arith}
use Rattle.std.proofs.Common.{◌≡◌, Err}
use Rattle.preparer.proofs.Ready.{few_prepared, row_numbers_lem}
use Rattle.conditions.proofs.Calling.{rows_runnable}
use Rattle.look_lists.proofs.Looking.{looked_refused, looked_record_refused, looked_listed}
use Rattle.looks.proofs.calls.looked_at.Goals as goal

pub returns-in_err-check_record : goal.returns-in_err-check_record
returns-in_err-check_record c =
    let e : c.from_residual-in_err-check_record.result ≡ Err c.in_err-check_record.field-0.0 = grind arith in
    rw e (looked_record_refused c.prepare.ensures c.in_ok-count.was _ _ _ (sym c.check_record.ensures ∙ c.in_err-check_record.was))

pub overflow_mul-end : goal.overflow_mul-end
overflow_mul-end c = omega (arith, few_prepared c.prepare.ensures c.in_ok-count.was)

pub slice_bounds-plan-end : goal.slice_bounds-plan-end
slice_bounds-plan-end c = omega (arith, few_prepared c.prepare.ensures c.in_ok-count.was)

pub slice_bounds-list_reached-end : goal.slice_bounds-list_reached-end
slice_bounds-list_reached-end c =
    row_numbers_lem c.prepare.ensures c.in_ok-count.was

pub list_reached-requires : goal.list_reached-requires
list_reached-requires c =
    rows_runnable c.prepare.ensures c.in_ok-count.was _ (sym c.check_record.ensures ∙ c.in_ok-check_record.was)

pub returns-in_err-count : goal.returns-in_err-count
returns-in_err-count c =
    let e : c.from_residual.result ≡ Err c.in_err-count.field-0.0 = grind arith in
    rw e (looked_refused c.prepare.ensures c.in_err-count.was _ _ _)

pub returns : goal.returns
returns c =
    looked_listed c.prepare.ensures c.in_ok-count.was _ _ _ (sym c.check_record.ensures ∙ c.in_ok-check_record.was)
    c.list_reached.ensures
