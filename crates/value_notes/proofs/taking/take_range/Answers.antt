-- `take_range` meets its contract: from the laws of proofs/ and what its callees ensure. Assumes nothing.
use mathlib.Core.Path.{refl}
use Rattle.value_notes.proofs.Taken.{range_over, range_taken}
use Rattle.value_notes.proofs.taking.take_range.Goals as goal

pub returns-then-tally : goal.returns-then-tally
returns-then-tally c =
    let a = c.args in
    range_over a.low a.high a.found a.tally a.row.now a.notes.now _ c.passed.ensures c.if-tally.true

pub returns : goal.returns
returns c =
    let a = c.args in
    range_taken a.low a.high a.found a.tally a.row.now a.notes.now _ _ refl refl
    c.if-tally.false c.put_pair.ensures c.put_literal.ensures c.put_literal-2.ensures
