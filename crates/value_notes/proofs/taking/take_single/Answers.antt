-- `take_single` meets its contract: from the laws of proofs/ and what its callees ensure. Assumes nothing.
use mathlib.Core.Path.{refl}
use Rattle.value_notes.proofs.Taken.{single_over, single_taken}
use Rattle.value_notes.proofs.taking.take_single.Goals as goal

pub returns-then-tally : goal.returns-then-tally
returns-then-tally c =
    let a = c.args in
    single_over a.low a.found a.tally a.row.now a.notes.now _ c.passed.ensures c.if-tally.true

pub returns : goal.returns
returns c =
    let a = c.args in
    single_taken a.low a.found a.tally a.row.now a.notes.now _ refl
    c.if-tally.false c.put_pair.ensures c.put_literal.ensures
