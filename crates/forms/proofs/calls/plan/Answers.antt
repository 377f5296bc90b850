-- Rests on what `prepare` ensures: the refusal of a line, or the rows of the condition's tree at the start of the buffer.
use native.Mathlib.Omega.{arith}
use Rattle.std.proofs.Common.{Err}
use Rattle.std.proofs.lemmas.Grind.{common_steps}
use Rattle.preparer.proofs.Ready.{few_prepared, row_numbers_lem}
use mathlib.Core.Path.{◌≡◌}
use mathlib.Core.List.{List}
use Prim.Native.Nat.{ℕ}
use Rattle.rules.specs.Calls.{Gives, Leaves}
use Rattle.rules.specs.Numbers.{of_written}
use Rattle.forms.proofs.Calling.{in_numbers, plan_refused, plan_no_room, plan-written}
use Rattle.forms.proofs.calls.plan.Goals as goal
use Rattle.tables.specs.Refusals.{Written}

-- the same as a record of the clauses
told_in_numbers : {gives : Gives} {answer : Written} {output : List ℕ} → Leaves gives answer output →
    record { leaves : Leaves gives answer output; result_value : of_written answer ≡ of_written gives.answer }
told_in_numbers l = let p = in_numbers l in record { leaves = p.0; result_value = p.1 }

pub overflow_mul-needed : goal.overflow_mul-needed
overflow_mul-needed c = omega (arith, few_prepared c.prepare.ensures c.in_ok-count.was)

pub returns-then-output-needed : goal.returns-then-output-needed
returns-then-output-needed c = told_in_numbers (plan_no_room c.prepare.ensures c.in_ok-count.was _ c.if-output-needed.true)

pub slice_bounds-rows-end : goal.slice_bounds-rows-end
slice_bounds-rows-end c = omega (arith, few_prepared c.prepare.ensures c.in_ok-count.was)

pub slice_bounds-copy-end : goal.slice_bounds-copy-end
slice_bounds-copy-end c = row_numbers_lem c.prepare.ensures c.in_ok-count.was

pub returns-in_err-count : goal.returns-in_err-count
returns-in_err-count c =
    let e : c.from_residual.result ≡ Err c.in_err-count.field-0.0 = grind arith in
    rw e (told_in_numbers (plan_refused c.prepare.ensures c.in_err-count.was _))

pub returns : goal.returns
returns c =
    told_in_numbers (plan-written c.prepare.ensures c.in_ok-count.was _
    c.if-output-needed.false c.copy.ensures)
