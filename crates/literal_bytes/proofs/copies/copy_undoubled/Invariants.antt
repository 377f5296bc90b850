use Prim.Native.Nat.{◌-◌}
use lib.ListN.{length}
use Rattle.literal_bytes.proofs.Copying.{Kept}
use Rattle.literal_bytes.proofs.copies.copy_undoubled.Reads as reads
use Rattle.literal_bytes.proofs.copies.copy_undoubled.Lts as lts
use Rattle.literal_bytes.proofs.copies.stride.Reads as stride-reads
use Rattle.literal_bytes.proofs.copies.copy_undoubled.Given as goal

abbrev pub invariant-loop-i : goal.invariant-loop-i
invariant-loop-i l = Kept l.from l.initial.to l.n l.i l.to

abbrev pub decreases-loop-i : goal.decreases-loop-i
decreases-loop-i l = length l.from - l.i
