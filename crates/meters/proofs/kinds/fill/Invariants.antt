use lib.ListN.{length}
use Rattle.meters.proofs.Filling.{Filling}
use Rattle.meters.proofs.kinds.fill.Given as goal

abbrev pub invariant-loop-b : goal.invariant-loop-b
invariant-loop-b l = Filling l.initial.bytes l.bytes l.b-index
