-- What `ends_within` and `row_at` ensure, and the laws of a loop that seeks the first place that fails a test.
use Rattle.tables.specs.Rows.{row_at, lies_in}
use Rattle.tables.specs.declared.Refusal.TheVariants.{Record}
use Rattle.tables.proofs.Lines.{Passed}
use Rattle.checks.proofs.lent.check_record.Given as goal

abbrev pub invariant-loop-v : goal.invariant-loop-v
invariant-loop-v l = Passed (λ k. lies_in (row_at l.items k) l.«record») Record l.rows l.v
