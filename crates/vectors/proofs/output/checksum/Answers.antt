-- One number more, and all.
use Rattle.std.proofs.Common.{arith}
use Rattle.vectors.proofs.Summing.{sum-next, sum_last}
use Rattle.vectors.proofs.output.checksum.Goals as goal

pub loop-number-preserved : goal.loop-number-preserved
loop-number-preserved c =
    let l = c.loop-number in
    sum-next c.args.output.now l.sum l.number-index c.times_prime-sum.result (omega arith) c.times_prime-sum.ensures l.invariant

pub returns : goal.returns
returns c = sum_last c.args.output.now c.loop-number.sum c.loop-number.number-index (omega arith) (omega arith) c.loop-number.invariant
