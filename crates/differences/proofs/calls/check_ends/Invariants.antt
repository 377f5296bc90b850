-- What `ends_within` and `row_at` ensure, and the laws of a loop that seeks the first place that fails a test.
use Rattle.tables.specs.declared.Refusal.TheVariants.{Record}
use Rattle.tables.specs.Rows.{lies_in}
use Rattle.tables.proofs.Lines.{Passed}
use Rattle.differences.specs.Differ.{lies_in_both}
use Rattle.differences.proofs.calls.check_ends.Given as goal

abbrev pub invariant-loop-v : goal.invariant-loop-v
invariant-loop-v l = Passed (lies_in_both l.items l.first l.second) Record l.rows l.v
