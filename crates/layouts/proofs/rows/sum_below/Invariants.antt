-- `sum_below` meets its contract: from the laws of proofs/ and what its callees ensure. Assumes nothing.
use Rattle.layouts.proofs.Laying.{SoFar}
use Rattle.layouts.proofs.rows.sum_below.Given as goal

abbrev pub invariant-loop-k : goal.invariant-loop-k
invariant-loop-k l = SoFar l.entries l.i l.n l.level l.k l.size l.signed
