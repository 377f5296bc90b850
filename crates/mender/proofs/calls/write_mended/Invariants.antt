use Prim.Native.Nat.{◌-◌, ◌+◌}
use mathlib.Core.Path.{◌≡◌}
use mathlib.Core.List.{◌++◌}
use lib.ListN.{length, drop}
use Rattle.mending.specs.Mend.{mended_record}
use Rattle.mender.proofs.Walking.{half, seen}
use Rattle.mender.proofs.Stepping.{Walk}
use Rattle.mender.proofs.calls.write_mended.Given as goal

abbrev pub invariant-loop-v : goal.invariant-loop-v
invariant-loop-v l = Walk l.items l.initial.«record» l.at l.v × (l.count ≡ length (seen l.initial.«record» (mended_record l.items l.initial.«record») l.at)) ×
    (length l.list ≡ length l.initial.list) × (l.«record» ≡ half l.initial.«record» (mended_record l.items l.initial.«record») l.at) × (l.list ≡ seen l.initial.«record» (mended_record l.items l.initial.«record») l.at ++ drop l.count l.initial.list)

abbrev pub decreases-loop-v : goal.decreases-loop-v
decreases-loop-v l = length l.initial.«record» - l.at
