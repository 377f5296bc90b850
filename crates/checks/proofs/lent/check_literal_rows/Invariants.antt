-- What `literal_sound` and `row_at` ensure, and the laws of a loop that seeks the first place that fails a test.
use Rattle.tables.specs.Rows.{row_at}
use Rattle.tables.specs.Tables.{literal_sound}
use Rattle.tables.specs.declared.Refusal.TheVariants.{LiteralRow}
use Rattle.tables.proofs.Lines.{Passed}
use Rattle.checks.proofs.lent.check_literal_rows.Given as goal

abbrev pub invariant-loop-v : goal.invariant-loop-v
invariant-loop-v l = Passed (λ k. literal_sound l.bytes (row_at l.literals k)) LiteralRow l.rows l.v
