-- `copy_words` meets its contract: from the laws of proofs/ and what its callees ensure. Assumes nothing.
use Prim.Native.Nat.{◌-◌, ◌≤◌}
use lib.ListN.{length}
use Rattle.tables.proofs.Front.{Front}
use Rattle.outputs.specs.Noted.{bytes_from}
use Rattle.literal_outputs.proofs.literals.copy_words.Given as goal

abbrev pub invariant-loop-i : goal.invariant-loop-i
invariant-loop-i l = Front (bytes_from l.text l.notes 0 l.i) l.initial.to (length (bytes_from l.text l.notes 0 l.i)) l.to
