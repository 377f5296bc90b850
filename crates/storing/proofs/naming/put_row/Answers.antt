-- `put_row` meets its contract: from the laws of proofs/ and what its callees ensure. Assumes nothing.
use Prim.Native.Nat.{◌-◌}
use Rattle.storing.proofs.Rows.{copied_more, copied_all}
use Rattle.storing.proofs.naming.put_row.Goals as goal

pub loop-k-preserved : goal.loop-k-preserved
loop-k-preserved c = copied_more c.requires.0 c.requires.1 c.loop-k.invariant c.loop-k-test.true

pub returns : goal.returns
returns c = copied_all c.requires.0 c.requires.1 c.loop-k.invariant c.loop-k-test.false
