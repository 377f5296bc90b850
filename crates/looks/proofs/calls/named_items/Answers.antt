-- Rests on what `prepare` ensures: the rows of the condition's tree name what the tree names.
use native.Mathlib.Omega.{arith}
use Rattle.std.proofs.Common.{◌≡◌, Err}
use Rattle.preparer.proofs.Ready.{few_prepared, row_numbers_lem}
use Rattle.look_lists.proofs.Looking.{few_named, rows_markable, named_refused, named-listed}
use Rattle.looks.proofs.calls.named_items.Goals as goal

pub overflow_mul-end : goal.overflow_mul-end
overflow_mul-end c = omega (arith, few_prepared c.prepare.ensures c.in_ok-count.was)

pub slice_bounds-plan-end : goal.slice_bounds-plan-end
slice_bounds-plan-end c = omega (arith, few_prepared c.prepare.ensures c.in_ok-count.was)

pub slice_bounds-list_named-end : goal.slice_bounds-list_named-end
slice_bounds-list_named-end c = row_numbers_lem c.prepare.ensures c.in_ok-count.was

pub list_named-requires : goal.list_named-requires
list_named-requires c =
    (few_named c.prepare.ensures c.in_ok-count.was, rows_markable c.prepare.ensures c.in_ok-count.was)

pub returns-in_err-count : goal.returns-in_err-count
returns-in_err-count c =
    let e : c.from_residual.result ≡ Err c.in_err-count.field-0.0 = grind arith in
    rw e (named_refused c.prepare.ensures c.in_err-count.was _)

pub returns : goal.returns
returns c =
    named-listed c.prepare.ensures c.in_ok-count.was _ c.list_named.ensures
