-- `spell` meets its contract: from the laws of proofs/ and what its callees ensure. Assumes nothing.
use native.Mathlib.Omega.{arith}
use Rattle.literal_spans.proofs.Going.{stops, goes, ends}
use Rattle.literal_spans.proofs.steps.spell.Goals as goal

pub returns-then-next-eq8 : goal.returns-then-next-eq8
returns-then-next-eq8 c =
    stops c.args.rest.now c.loop-k.state c.loop-k.k c.step-next.result c.loop-k.invariant (omega arith) c.step-next.ensures c.if-next-eq8.true

pub loop-k-preserved : goal.loop-k-preserved
loop-k-preserved c =
    goes c.args.rest.now c.loop-k.state c.loop-k.k c.step-next.result c.loop-k.invariant (omega arith) c.step-next.ensures c.if-next-eq8.false

pub returns : goal.returns
returns c =
    let e = ends c.args.rest.now c.loop-k.state c.loop-k.k c.loop-k.invariant (omega arith) in
    (omega (arith, e.0), e.1)
