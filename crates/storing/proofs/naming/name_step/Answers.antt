-- `name_step` meets its contract: from the laws of proofs/ and what its callees ensure. Assumes nothing.
use native.Mathlib.Omega.{arith}
use Prim.Native.Nat.{◌+◌, ◌-◌}
use mathlib.Core.Path.{refl, ◌∙◌}
use Rattle.std.proofs.lemmas.Grind.{common_steps}
use Rattle.std.proofs.lemmas.Result.{err_from_is_err_and}
use Rattle.text_bytes.proofs.Laws.{inked_le}
use Rattle.storing.proofs.Steps.{below, named_step, named-over, named-fault}
use Rattle.storing.proofs.naming.name_step.Goals as goal

pub returns-then-t : goal.returns-then-t
returns-then-t c = named-over c.requires c.item_row-item.ensures c.start_of.ensures c.read_name.ensures c.in_ok-read.was c.if-t.true c.passed_by.ensures

pub store_name-requires : goal.store_name-requires
store_name-requires c = grind (arith, common_steps, inked_le, below)

pub overflow_add-next : goal.overflow_add-next
overflow_add-next c = omega (arith, below c.requires c.item_row-item.ensures c.start_of.ensures c.read_name.ensures c.in_ok-read.was c.if-t.false)

pub returns : goal.returns
returns c =
    named_step c.requires c.item_row-item.ensures c.start_of.ensures c.read_name.ensures c.in_ok-read.was c.if-t.false refl
    (rw c.next_ink-named.ensures at c.store_name.ensures)

pub returns-in_err-read : goal.returns-in_err-read
returns-in_err-read c =
    let p = err_from_is_err_and c.from_residual.result c.from_residual.ensures.1 in
    rw (p.1, p.2) (named-fault c.requires c.item_row-item.ensures c.start_of.ensures c.read_name.ensures c.in_err-read.was)
