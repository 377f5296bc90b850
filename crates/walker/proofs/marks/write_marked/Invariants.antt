-- The laws of a loop that lists.
use Rattle.items.proofs.Listing.{Listing}
use Rattle.walker.specs.Marks.{marked_row}
use Rattle.walker.proofs.marks.write_marked.Given as goal

abbrev pub invariant-loop-v : goal.invariant-loop-v
invariant-loop-v l = Listing (marked_row l.marks) l.rows l.initial.list l.list l.count l.v
