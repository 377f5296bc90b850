-- `copy_words` meets its contract: from the laws of proofs/ and what its callees ensure. Assumes nothing.
use mathlib.Core.Path.{refl}
use native.Mathlib.Omega.{arith}
use Rattle.outputs.proofs.Copying.{bytes_none, bytes_asked, bytes_more}
use Rattle.literal_outputs.proofs.literals.copy_words.Goals as goal

pub loop-i-init : goal.loop-i-init
loop-i-init c = bytes_none _ _ _

pub copy_literal-requires : goal.copy_literal-requires
copy_literal-requires c =
    rw c.noted_row.ensures (bytes_asked _ _ _ c.args.n c.loop-i.i c.requires.0 (omega arith) c.requires.1 c.loop-i.invariant refl refl refl)

pub loop-i-preserved : goal.loop-i-preserved
loop-i-preserved c =
    bytes_more _ _ _ c.args.n c.loop-i.i c.requires.0 (omega arith) c.requires.1 c.loop-i.invariant refl refl refl
    (rw c.noted_row.ensures at c.copy_literal.ensures)
