use Rattle.tables.specs.Rows.{part}
use Prim.Native.Nat.{◌≤◌}
use mathlib.Core.Path.{◌≡◌, ap}
use lib.ListN.{length}
use Rattle.copies.proofs.Choosing.{rows_where}
use Rattle.merging.specs.Merge.{copies_of, apart_at}
use Rattle.contested.proofs.apart.count_apart.Given as goal

abbrev pub invariant-loop-v : goal.invariant-loop-v
invariant-loop-v l = (l.v ≤ l.rows) × (l.count ≤ l.v) × (l.count ≡ length (rows_where (apart_at (copies_of l.items l.old l.first l.second)) l.v))
