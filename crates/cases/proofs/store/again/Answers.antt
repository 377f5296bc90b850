-- One number more, or none.
use Rattle.std.proofs.Common.{sym, ◌∙◌, arith}
use Rattle.cases.proofs.Storing.{once_more, no_more}
use Rattle.cases.proofs.store.again.Goals as goal

pub loop-i-preserved : goal.loop-i-preserved
loop-i-preserved c =
    let next = once_more c.args.part c.args.end c.loop-i.store c.push.new.store c.loop-i.i c.place.result c.get.result
    (omega arith) c.place.ensures c.get.ensures c.push.ensures in
    next ∙ c.loop-i.invariant

pub returns : goal.returns
returns c = sym (no_more c.args.part c.args.end c.loop-i.store c.loop-i.i (omega arith)) ∙ c.loop-i.invariant
