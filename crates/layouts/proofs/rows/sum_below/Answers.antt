-- `sum_below` meets its contract: from the laws of proofs/ and what its callees ensure. Assumes nothing.
use native.Mathlib.Omega.{arith}
use Rattle.layouts.proofs.Laying.{sum_more, sum_stop, sum_end}
use Rattle.layouts.proofs.rows.sum_below.Goals as goal

pub returns-then-not-level-l : goal.returns-then-not-level-l
returns-then-not-level-l c = sum_stop c.args.entries.now c.args.i
    c.args.n c.args.level c.loop-k.k
    c.loop-k.size c.loop-k.signed (omega arith) c.requires.1.0
    c.loop-k.invariant c.if-not-level-l.true

pub loop-k-preserved : goal.loop-k-preserved
loop-k-preserved c = sum_more c.args.entries.now c.args.i c.args.n c.args.level c.loop-k.k c.loop-k.size c.loop-k.signed
    (omega arith) c.loop-k.invariant c.if-not-level-l.false c.size_at-size.ensures c.signed_at-signed.ensures

pub returns : goal.returns
returns c = sum_end c.args.entries.now c.args.i c.args.n c.args.level c.loop-k.k c.loop-k.size c.loop-k.signed
    (omega arith) (omega arith) c.loop-k.invariant
