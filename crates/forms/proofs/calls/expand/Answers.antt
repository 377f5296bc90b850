-- Rests on what `prepare` ensures: the refusal of a line, or a condition that passes, whose spelling is its tree's expanded form.
use native.Mathlib.Omega.{arith}
use Rattle.std.proofs.Common.{Err}
use Rattle.std.proofs.lemmas.Grind.{common_steps}
use mathlib.Core.Path.{◌≡◌}
use mathlib.Core.List.{List}
use Prim.Native.Nat.{ℕ}
use Rattle.rules.specs.Calls.{Gives, Leaves}
use Rattle.rules.specs.Numbers.{of_written}
use Rattle.forms.proofs.Calling.{in_numbers, few_spelled, expand_refused, expand_no_room, expand_written}
use Rattle.forms.proofs.calls.expand.Goals as goal
use Rattle.tables.specs.Refusals.{Written}

-- the same as a record of the clauses
told_in_numbers : {gives : Gives} {answer : Written} {output : List ℕ} → Leaves gives answer output →
    record { leaves : Leaves gives answer output; result_value : of_written answer ≡ of_written gives.answer }
told_in_numbers l = let p = in_numbers l in record { leaves = p.0; result_value = p.1 }

pub write_expanded-length-requires : goal.write_expanded-length-requires
write_expanded-length-requires c = omega (arith, few_spelled c.prepare.ensures c.in_ok-prepare.was)

pub returns-then-output-length : goal.returns-then-output-length
returns-then-output-length c =
    told_in_numbers (expand_no_room c.prepare.ensures c.in_ok-prepare.was c.write_expanded-length.ensures.value _ c.if-output-length.true)

pub returns-in_err-prepare : goal.returns-in_err-prepare
returns-in_err-prepare c =
    let e : c.from_residual.result ≡ Err c.in_err-prepare.field-0.0 = grind arith in
    rw e (told_in_numbers (expand_refused c.prepare.ensures c.in_err-prepare.was _))

pub returns : goal.returns
returns c =
    told_in_numbers (expand_written c.prepare.ensures c.in_ok-prepare.was c.write_expanded-length.ensures.value _ _ _
    c.write_expanded-length.ensures.out_after c.if-output-length.false c.copy.ensures)
