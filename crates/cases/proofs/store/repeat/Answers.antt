-- One time more, or none.
use Rattle.std.proofs.Common.{sym, ◌-◌, ◌∙◌, arith}
use Rattle.cases.proofs.Storing.{one_time, all_times}
use Rattle.cases.proofs.store.repeat.Goals as goal

pub loop-done-preserved : goal.loop-done-preserved
loop-done-preserved c =
    let from = c.get-from.result in
    let end = c.get-end.result in
    let next = one_time c.args.part from (end - from) c.args.times c.loop-done.store c.again.new.store c.loop-done.done (omega arith) c.again.ensures in
    next ∙ c.loop-done.invariant

pub returns : goal.returns
returns c =
    let from = c.get-from.result in
    let end = c.get-end.result in
    rw (← c.get-from.ensures, ← c.get-end.ensures)
    (sym (all_times c.args.part from (end - from) c.args.times c.loop-done.store c.loop-done.done (omega arith)) ∙ c.loop-done.invariant)
