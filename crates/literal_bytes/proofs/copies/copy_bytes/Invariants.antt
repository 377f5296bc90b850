-- The first n bytes are copied.
use Rattle.tables.proofs.Front.{Copied}
use Rattle.literal_bytes.proofs.copies.copy_bytes.Given as goal

abbrev pub invariant-loop-n : goal.invariant-loop-n
invariant-loop-n l = Copied l.from l.initial.to l.n l.to
