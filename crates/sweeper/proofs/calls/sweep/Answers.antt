-- The refusals in their order, then each record's numbers.
use mathlib.Core.Bool.{not}
use mathlib.Core.Path.{ap}
use mathlib.Core.Path.{sym, ◌∙◌}
use native.Mathlib.Omega.{arith}
use lib.ListN.{length}
use lib.Seq.{length-take-le}
use borrow.Author.Rules.{rules}
use Rattle.std.proofs.lemmas.Grind.{common_steps}
use Rattle.tables.specs.Operands.{lend_names}
use Rattle.sweeps.proofs.Going.{filled, one_fits}
use Rattle.sweeps.proofs.Lines.{held, unruly, uneven, empty, short, lacks_room, written}
use Rattle.sweeper.proofs.calls.sweep.Goals as goal

pub returns-in-Err : goal.returns-in-Err
returns-in-Err c =
    let a = c.args in
    let lent = lend_names a.items.now a.literals.now a.bytes.now a.names.now in
    let plan = a.plan.now in
    let file = a.records.now in
    unruly lent plan file a.size a.switches a.answers.now (sym c.check_rules-rules.ensures ∙ c.in-Err.is)

pub returns-then-not-is_even : goal.returns-then-not-is_even
returns-then-not-is_even c = grind (arith, common_steps, uneven)

pub returns-then-records-eq0 : goal.returns-then-records-eq0
returns-then-records-eq0 c = grind (arith, common_steps, empty)

pub slice_bounds-check_record-end : goal.slice_bounds-check_record-end
slice_bounds-check_record-end c = grind (arith, common_steps, length, length-take-le, one_fits)

pub returns-in-Err-held : goal.returns-in-Err-held
returns-in-Err-held c =
    let a = c.args in
    let lent = lend_names a.items.now a.literals.now a.bytes.now a.names.now in
    let plan = a.plan.now in
    let file = a.records.now in
    short lent plan file a.size a.switches a.answers.now (sym c.check_rules-rules.ensures ∙
    c.in_default.is) (sym c.is_even.ensures ∙ c.if-not-is_even.false) c.if-records-eq0.false (sym c.check_record-held.ensures ∙
    c.in-Err-held.is)

pub nonzero_div-count : goal.nonzero_div-count
nonzero_div-count c =
    let a = c.args in
    let f = filled a.size (length a.records.now) (sym c.is_even.ensures ∙ c.if-not-is_even.false) in
    omega (arith, f.0)

pub overflow_mul-count : goal.overflow_mul-count
overflow_mul-count c =
    let a = c.args in
    let f = filled a.size (length a.records.now) (sym c.is_even.ensures ∙ c.if-not-is_even.false) in
    omega (arith, f.2)

pub returns-then-answers-count : goal.returns-then-answers-count
returns-then-answers-count c = grind (arith, common_steps, held, lacks_room)

pub returns : goal.returns
returns c =
    let a = c.args in
    let lent = lend_names a.items.now a.literals.now a.bytes.now a.names.now in
    let plan = a.plan.now in
    let file = a.records.now in
    written lent plan file a.size a.switches a.answers.now (sym
    c.check_rules-rules.ensures ∙
    c.in_default.is) (sym
    c.is_even.ensures ∙ c.if-not-is_even.false) (held lent a.size file
    c.if-records-eq0.false (sym c.check_record-held.ensures ∙
    c.in_default-held.is)) (omega (arith, c.if-answers-count.false)) c.sweep_records.ensures
