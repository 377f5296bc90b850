-- `common_length` meets its contract: from the laws of proofs/ and what its callees ensure. Assumes nothing.
use native.Mathlib.Omega.{arith}
use Rattle.description.specs.Stages.{common}
use Rattle.wanted_words.proofs.Laws.{common_short, common_more, common_other, common_end}
use Rattle.wanted_words.proofs.literals.common_length.Goals as goal

pub returns-then-rest-k : goal.returns-then-rest-k
returns-then-rest-k c = common_short c.args.word.now c.args.rest.now c.loop-k.k
    (omega arith) c.if-rest-k.true c.loop-k.invariant

pub returns-then-rest-k-2 : goal.returns-then-rest-k-2
returns-then-rest-k-2 c = common_other c.args.word.now c.args.rest.now
    c.loop-k.k (omega arith) c.if-rest-k.false c.if-rest-k-2.true
    c.loop-k.invariant

pub loop-k-preserved : goal.loop-k-preserved
loop-k-preserved c = common_more c.args.word.now c.args.rest.now
    c.loop-k.k (omega arith) c.if-rest-k.false c.if-rest-k-2.false
    c.loop-k.invariant

pub returns : goal.returns
returns c = omega (arith, common_end c.args.word.now c.args.rest.now c.loop-k.k (omega arith) c.loop-k.invariant)
