use borrow.Author.Tests.{ne_eqb}
use Rattle.plans.specs.Rows.{aim}
use Rattle.plans.proofs.rows.aimed.Goals as goal

pub returns-then-number-eq-TRUE : goal.returns-then-number-eq-TRUE
unfolding aim
returns-then-number-eq-TRUE c = rw c.if-number-eq-TRUE.true

pub returns-then-number-eq-FALSE : goal.returns-then-number-eq-FALSE
unfolding aim
returns-then-number-eq-FALSE c = rw c.if-number-eq-FALSE.true

pub returns : goal.returns
unfolding aim
returns c = rw (ne_eqb _ _ c.if-number-eq-TRUE.false, ne_eqb _ _ c.if-number-eq-FALSE.false)
