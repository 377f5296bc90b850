-- Two numbers for each row that differs.
use Prim.Native.Nat.{◌*◌, ◌≤◌}
use mathlib.Core.Path.{◌≡◌}
use lib.ListN.{length}
use Rattle.items.specs.Items.{listed}
use Rattle.differences.specs.Differ.{entry_at}
use Rattle.differences.proofs.calls.count_differences.Given as goal

abbrev pub invariant-loop-v : goal.invariant-loop-v
invariant-loop-v l = (l.v ≤ l.rows) × (l.count ≡ length (listed (entry_at l.items l.first l.second) l.v)) × (l.count ≤ 2 * l.v)
