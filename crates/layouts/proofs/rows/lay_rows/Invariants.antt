-- `lay_rows` meets its contract: from the laws of proofs/ and what its callees ensure. Assumes nothing.
use Rattle.layouts.proofs.Laying.{Laying}
use Rattle.layouts.proofs.rows.lay_rows.Given as goal

abbrev pub invariant-loop-i : goal.invariant-loop-i
invariant-loop-i l = Laying l.entries l.n l.initial.rows l.rows l.offset l.i
