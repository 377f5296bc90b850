use Prim.Native.Nat.{◌-◌}
use mathlib.Core.Path.{◌≡◌}
use lib.ListN.{length}
use Rattle.mending.specs.Mend.{mended_record}
use Rattle.mender.proofs.Walking.{seen}
use Rattle.mender.proofs.Stepping.{Walk}
use Rattle.mender.proofs.calls.count_mended.Given as goal

abbrev pub invariant-loop-v : goal.invariant-loop-v
invariant-loop-v l = Walk l.items l.«record» l.at l.v × (l.count ≡ length (seen l.«record» (mended_record l.items l.«record») l.at))

abbrev pub decreases-loop-v : goal.decreases-loop-v
decreases-loop-v l = length l.«record» - l.at
