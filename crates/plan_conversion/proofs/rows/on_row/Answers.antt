-- The kind of the subject picks the case of the definition.
use borrow.Author.Tests.{ne_eqb}
use Rattle.grammar.specs.Converted.{on_row}
use Rattle.plan_conversion.proofs.rows.on_row.Goals as goal

pub returns-then-row-eq-SWITCH_OFF : goal.returns-then-row-eq-SWITCH_OFF
unfolding on_row
returns-then-row-eq-SWITCH_OFF c = rw c.if-row-eq-SWITCH_OFF.true

pub returns : goal.returns
unfolding on_row
returns c = rw (ne_eqb _ _ c.if-row-eq-SWITCH_OFF.false)
