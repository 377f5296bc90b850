-- `copy_rows` meets its contract: from the laws of proofs/ and what its callees ensure. Assumes nothing.
use Prim.Native.Nat.{◌-◌, ◌*◌, ◌≤◌}
use Rattle.tables.proofs.Front.{Front}
use Rattle.outputs.specs.Noted.{rows_from}
use Rattle.literal_outputs.proofs.literals.copy_rows.Given as goal

abbrev pub invariant-loop-i : goal.invariant-loop-i
invariant-loop-i l = Front (rows_from l.notes 0 l.i) l.initial.to (l.i * 5) l.to
