-- `read_entries` meets its contract: from the laws of proofs/ and what its callees ensure. Assumes nothing.
use mathlib.Core.Path.{◌≡◌}
use mathlib.Core.Bool.{true}
use Prim.Native.Nat.{◌-◌}
use lib.ListN.{length}
use Rattle.describer.proofs.Going.{Going}
use Rattle.describer.proofs.Past.{found}
use Rattle.storing.specs.Reads.{Beyond}
use Rattle.describer.proofs.reading.read_entries.Given as goal

abbrev pub invariant-loop-kept : goal.invariant-loop-kept
invariant-loop-kept l =
    Going l.text l.entries l.stack l.names l.places l.notes l.depth l.waiting l.count l.at l.kept × (length l.entries ≡ length l.initial.entries) × (length l.stack ≡ length l.initial.stack)
    × (length l.names ≡ length l.initial.names) × (length l.places ≡ length l.initial.places) × (length l.notes ≡ length l.initial.notes) × (length l.row ≡ length l.initial.row)
    × Beyond (found l.count true 0 l.kept) l.initial.entries l.initial.stack l.initial.names l.initial.places l.initial.notes l.entries l.stack l.names l.places l.notes l.row

abbrev pub decreases-loop-kept : goal.decreases-loop-kept
decreases-loop-kept l = length l.text - l.at
