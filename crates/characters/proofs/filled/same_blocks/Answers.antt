-- Rests on the invariant that the first i bytes are the same, and on what `block_same` ensures of the next block.
use Prim.Native.Nat.{◌-◌}
use native.Mathlib.Omega.{arith}
use Rattle.characters.proofs.CharacterLaws.{alike_block}
use Rattle.characters.proofs.filled.same_blocks.Goals as goal

pub loop-i-preserved : goal.loop-i-preserved
loop-i-preserved c =
    let a = c.args in
    let block = c.block_same.ensures (c.if-not-block_same.false) in
    (omega arith, alike_block a.left.now a.right.now c.loop-i.i a.size (omega arith) (omega arith) c.loop-i.invariant.1 block)
