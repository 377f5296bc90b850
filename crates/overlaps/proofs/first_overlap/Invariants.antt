-- What `is_clear` ensures, and the laws of a loop that seeks the first place that fails a test.
use Rattle.tables.specs.declared.Refusal.TheVariants.{Overlap}
use Rattle.tables.proofs.Lines.{Passed}
use Rattle.items.specs.Items.{clear_at}
use Rattle.overlaps.proofs.first_overlap.Given as goal

abbrev pub invariant-loop-v : goal.invariant-loop-v
invariant-loop-v l = Passed (clear_at l.items) Overlap l.rows l.v
