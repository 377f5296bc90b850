-- `copy_named` meets its contract: from the laws of proofs/ and what its callees ensure. Assumes nothing.
use native.Mathlib.Omega.{arith}
use Rattle.outputs.proofs.Copying.{named_none, named_more}
use Rattle.outputs.proofs.copies.copy_named.Goals as goal

pub loop-i-preserved : goal.loop-i-preserved
loop-i-preserved c = named_more c.args.entries.now c.args.to.now c.loop-i.i (omega arith) c.loop-i.invariant

pub loop-i-init : goal.loop-i-init
loop-i-init c = named_none c.args.entries.now _
