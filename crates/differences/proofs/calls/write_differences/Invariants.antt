-- The laws of a loop that lists.
use Rattle.tables.specs.Rows.{row_count}
use Rattle.items.proofs.Listing.{Listing}
use Rattle.differences.specs.Differ.{entry_at}
use Rattle.differences.proofs.calls.write_differences.Given as goal

abbrev pub invariant-loop-v : goal.invariant-loop-v
invariant-loop-v l = Listing (entry_at l.items l.first l.second) (row_count l.items) l.initial.list l.list l.count l.v
