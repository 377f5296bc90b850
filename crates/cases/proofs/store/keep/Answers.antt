-- One number more, or none.
use Rattle.std.proofs.Common.{sym, ap, ◌∙◌, arith}
use Rattle.cases.specs.Stores.{pushed_all}
use Rattle.cases.proofs.Storing.{keeps_one, keeps_all}
use Rattle.cases.proofs.store.keep.Goals as goal

pub loop-number-preserved : goal.loop-number-preserved
loop-number-preserved c =
    let next = keeps_one c.args.part c.args.numbers.now c.loop-number.store c.push.new.store c.loop-number.number-index (omega arith) c.push.ensures in
    next ∙ c.loop-number.invariant

pub returns : goal.returns
returns c =
    sym (keeps_all c.args.part c.args.numbers.now c.loop-number.store c.loop-number.number-index (omega arith)) ∙ c.loop-number.invariant
    ∙ ap (λ s. pushed_all s c.args.part c.args.numbers.now) c.put.ensures
