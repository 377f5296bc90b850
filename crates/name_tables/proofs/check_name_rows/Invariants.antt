-- The laws of a loop that seeks the first place that fails a test.
use Rattle.tables.specs.declared.Refusal.TheVariants.{Name}
use Rattle.tables.specs.Operands.{lend, lend_names}
use Rattle.tables.proofs.Lines.{Passed}
use Rattle.values.specs.Names.{name_sound}
use Rattle.name_tables.proofs.check_name_rows.Given as goal

abbrev pub invariant-loop-v : goal.invariant-loop-v
invariant-loop-v l = Passed (name_sound (lend_names l.items l.literals l.bytes l.names)) Name l.rows l.v
