-- The invariant: the rows passed are marked.
use mathlib.Core.Path.{◌≡◌}
use Rattle.items.specs.Items.{listed}
use Rattle.walker.specs.Marks.{marked, lent_names, rows_at}
use Rattle.walks.proofs.mark_named.Given as goal

abbrev pub invariant-loop-k : goal.invariant-loop-k
invariant-loop-k l = l.marks ≡ marked l.initial.marks (listed (rows_at (lent_names l.names) l.plan) l.k)
