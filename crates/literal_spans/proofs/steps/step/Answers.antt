-- `step` meets its contract: from the laws of proofs/ and what its callees ensure. Assumes nothing.
use borrow.Author.Tests.{le-leb, lt-leb}
use Rattle.description.proofs.Bytes.{eqb_no}
use Rattle.literal_spans.specs.Steps.{step}
use Rattle.literal_spans.proofs.steps.step.Goals as goal

pub returns-then-b-eq34 : goal.returns-then-b-eq34
unfolding step
returns-then-b-eq34 c = rw (c.if-state-eq6.true, c.if-b-eq34.true)

pub returns-then-state-eq6 : goal.returns-then-state-eq6
unfolding step
returns-then-state-eq6 c = rw (c.if-state-eq6.true, eqb_no _ 0x22 c.if-b-eq34.false)

pub returns-then-b-eq34-2 : goal.returns-then-b-eq34-2
unfolding step
returns-then-b-eq34-2 c = rw (c.if-state-eq7.true, c.if-b-eq34-2.true)

pub returns-then-state-eq7 : goal.returns-then-state-eq7
unfolding step
returns-then-state-eq7 c = rw (c.if-state-eq7.true, eqb_no _ 0x22 c.if-b-eq34-2.false)

pub returns-then-state-le2 : goal.returns-then-state-le2
unfolding step
returns-then-state-le2 c =
    rw (eqb_no _ 6 c.if-state-eq6.false, eqb_no _ 7 c.if-state-eq7.false, ← c.is_digit.ensures, c.if-is_digit.true, le-leb _ 2 c.if-state-le2.true)

pub returns-then-is_digit : goal.returns-then-is_digit
unfolding step
returns-then-is_digit c =
    rw (eqb_no _ 6 c.if-state-eq6.false, eqb_no _ 7 c.if-state-eq7.false, ← c.is_digit.ensures, c.if-is_digit.true, lt-leb _ 2 c.if-state-le2.false)

pub returns-then-b-eq46 : goal.returns-then-b-eq46
unfolding step
returns-then-b-eq46 c =
    rw (eqb_no _ 6 c.if-state-eq6.false, eqb_no _ 7 c.if-state-eq7.false, ← c.is_digit.ensures, c.if-is_digit.false, c.if-b-eq46.true)
    c.point_step.ensures

pub returns : goal.returns
unfolding step
returns c =
    rw (eqb_no _ 6 c.if-state-eq6.false, eqb_no _ 7 c.if-state-eq7.false, ← c.is_digit.ensures, c.if-is_digit.false, eqb_no _ 0x2e c.if-b-eq46.false)
    c.first_step.ensures
