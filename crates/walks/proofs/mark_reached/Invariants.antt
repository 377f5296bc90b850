-- Rests on the laws of a run that marks: what is left of it, marked too, makes the marks of the whole.
use mathlib.Core.Path.{◌≡◌}
use Prim.Native.Nat.{◌-◌}
use lib.ListN.{length}
use Rattle.tables.specs.Operands.{lend_names}
use Rattle.values.specs.Truth.{outcome}
use Rattle.walker.proofs.Marking.{Walking}
use Rattle.walks.proofs.mark_reached.Given as goal

abbrev pub invariant-loop-at : goal.invariant-loop-at
invariant-loop-at l =
    let lent = lend_names l.items l.literals l.bytes l.names in
    Walking lent (outcome lent l.«record» l.switches) l.plan l.initial.marks l.marks l.at × (length l.marks ≡ length l.initial.marks)

abbrev pub decreases-loop-at : goal.decreases-loop-at
decreases-loop-at l = 65536 - l.at
