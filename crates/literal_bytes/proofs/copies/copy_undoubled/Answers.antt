use Prim.Native.Nat.{◌-◌}
use native.Mathlib.Omega.{arith}
use lib.ListN.{length}
use Rattle.tables.proofs.Front.{copied-length, copied_all}
use Rattle.literal_bytes.proofs.Copying.{kept_left, kept_more, kept_all}
use Rattle.literal_bytes.proofs.copies.copy_undoubled.Reads as reads
use Rattle.literal_bytes.proofs.copies.copy_undoubled.Lts as lts
use Rattle.literal_bytes.proofs.copies.stride.Reads as stride-reads
use Rattle.literal_bytes.proofs.copies.copy_undoubled.Goals as goal

-- src/copies.rt:53:9
pub bounds-to-n : goal.bounds-to-n
bounds-to-n c =
    omega (arith, copied-length c.loop-i.invariant.copied, kept_left c.loop-i.invariant c.loop-i-test.true, c.requires)

-- src/copies.rt:51:5
pub loop-i-preserved : goal.loop-i-preserved
loop-i-preserved c = kept_more c.loop-i.invariant c.loop-i-test.true c.stride-i.result c.stride-i.ensures

-- src/copies.rt:45:1
pub returns : goal.returns
returns c = copied_all c.loop-i.invariant.copied (kept_all c.loop-i.invariant c.loop-i-test.false)
