-- `put_row` meets its contract: from the laws of proofs/ and what its callees ensure. Assumes nothing.
use Prim.Native.Nat.{◌*◌}
use Rattle.storing.proofs.Rows.{Copied}
use Rattle.storing.proofs.naming.put_row.Given as goal

abbrev pub invariant-loop-k : goal.invariant-loop-k
invariant-loop-k l = Copied l.initial.names l.row (l.i * 18) l.k l.names
