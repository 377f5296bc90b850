-- `name_run` meets its contract: from the laws of proofs/ and what its callees ensure. Assumes nothing.
use native.Mathlib.Omega.{arith}
use mathlib.Core.Path.{sym, ◌∙◌}
use Rattle.words.proofs.Reaches.{run_more, run_other, run_short, run_end}
use Rattle.words.proofs.names.name_run.Goals as goal

pub returns-then-rest-k : goal.returns-then-rest-k
returns-then-rest-k c = run_short c.args.rest.now c.args.most c.loop-k.k
    c.loop-k-test.true c.if-rest-k.true c.loop-k.invariant

pub returns-then-not-is_name_byte : goal.returns-then-not-is_name_byte
returns-then-not-is_name_byte c = run_other c.args.rest.now
    c.args.most c.loop-k.k
    c.loop-k-test.true c.if-rest-k.false (sym c.is_name_byte.ensures ∙ c.if-not-is_name_byte.true)
    c.loop-k.invariant

pub loop-k-preserved : goal.loop-k-preserved
loop-k-preserved c = run_more c.args.rest.now
    c.args.most c.loop-k.k
    c.loop-k-test.true c.if-rest-k.false (sym c.is_name_byte.ensures ∙ c.if-not-is_name_byte.false)
    c.loop-k.invariant

pub returns : goal.returns
returns c = omega (arith, run_end c.args.rest.now c.args.most c.loop-k.k c.loop-k-test.false c.loop-k.invariant)
