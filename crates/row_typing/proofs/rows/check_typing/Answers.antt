-- What `plan_row` and `well_typed` ensure, and the laws of a loop that seeks the first place that fails a test.
use mathlib.Core.Bool.{not}
use mathlib.Core.Path.{ap}
use Prim.Native.Nat.{◌-◌}
use Rattle.typing.specs.Typing.{typed}
use Rattle.tables.proofs.Lines.{passed_more, failed_at, passed_all}
use Rattle.grammar.specs.Plan.{plan_row}
use Rattle.row_typing.proofs.rows.check_typing.Goals as goal

pub returns-then-not-well_typed : goal.returns-then-not-well_typed
returns-then-not-well_typed c =
    let row = rw c.plan_row-row.ensures at c.well_typed.ensures in
    failed_at c.loop-k.invariant c.loop-k-test.true row (ap not c.if-not-well_typed.true)

pub loop-k-preserved : goal.loop-k-preserved
loop-k-preserved c =
    let row = rw c.plan_row-row.ensures at c.well_typed.ensures in
    passed_more c.loop-k.invariant c.loop-k-test.true row (ap not c.if-not-well_typed.false)

pub returns : goal.returns
returns c = passed_all c.loop-k.invariant c.loop-k-test.false
