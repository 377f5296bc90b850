-- What `row_sound` and `row_at` ensure, and the laws of a loop that seeks the first place that fails a test.
use Rattle.tables.specs.Rows.{row_at, row_sound}
use Rattle.tables.specs.declared.Refusal.TheVariants.{ItemRow}
use Rattle.tables.proofs.Lines.{Passed}
use Rattle.checks.proofs.lent.check_item_rows.Given as goal

abbrev pub invariant-loop-v : goal.invariant-loop-v
invariant-loop-v l = Passed (λ k. row_sound (row_at l.items k)) ItemRow l.rows l.v
