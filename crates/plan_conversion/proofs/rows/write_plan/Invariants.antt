-- The first k rows, converted, stand at the start of the output.
use Prim.Native.Nat.{◌*◌}
use Rattle.tables.proofs.Front.{Front}
use Rattle.plan_conversion.proofs.Begun.{begun}
use Rattle.plan_conversion.proofs.rows.write_plan.Given as goal

abbrev pub invariant-loop-k : goal.invariant-loop-k
invariant-loop-k l = Front (begun l.plan l.k) l.initial.out (l.k * 5) l.out
