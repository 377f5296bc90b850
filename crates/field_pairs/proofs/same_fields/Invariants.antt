-- One record after the other.
use lib.Dec.{eqb}
use Rattle.field_pairs.proofs.Tested.{Tested}
use Rattle.field_pairs.proofs.same_fields.Given as goal

abbrev pub invariant-loop-j : goal.invariant-loop-j
invariant-loop-j l = Tested eqb l.records l.first l.second l.bits l.initial.base l.size l.n l.initial.truths l.truths l.base l.j
