-- `copy_rows` meets its contract: from the laws of proofs/ and what its callees ensure. Assumes nothing.
use native.Mathlib.Omega.{arith}
use Rattle.outputs.proofs.Copying.{rows_none, row_more}
use Rattle.literal_outputs.proofs.literals.copy_rows.Goals as goal

pub loop-i-init : goal.loop-i-init
loop-i-init c = rows_none _ _

pub loop-i-preserved : goal.loop-i-preserved
loop-i-preserved c = row_more _ _ c.loop-i.i (omega (arith, c.requires.1)) c.loop-i.invariant
