use Prim.Native.Nat.{◌≤◌}
use mathlib.Core.Path.{◌≡◌}
use mathlib.Core.Bool.{cond}
use lib.ListN.{length}
use Rattle.items.specs.Items.{rewritten}
use Rattle.merging.specs.Merge.{copies_of, merged_at}
use Rattle.copies.proofs.write_merged.Given as goal

abbrev pub invariant-loop-v : goal.invariant-loop-v
invariant-loop-v l = (l.v ≤ l.rows) × (length l.out ≡ length l.old) × (l.out ≡ rewritten l.items (merged_at (copies_of l.items l.old l.first l.second) l.verdict) l.old l.v)
