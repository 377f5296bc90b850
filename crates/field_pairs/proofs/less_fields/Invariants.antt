-- One record after the other.
use lib.Dec.{ltb}
use Rattle.field_pairs.proofs.Tested.{Tested}
use Rattle.field_pairs.proofs.less_fields.Given as goal

abbrev pub invariant-loop-j : goal.invariant-loop-j
invariant-loop-j l = Tested ltb l.records l.first l.second l.bits l.initial.base l.size l.n l.initial.truths l.truths l.base l.j
