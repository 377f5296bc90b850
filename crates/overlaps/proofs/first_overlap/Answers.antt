-- What `is_clear` ensures, and the laws of a loop that seeks the first place that fails a test.
use mathlib.Core.Bool.{not}
use mathlib.Core.Path.{ap}
use Prim.Native.Nat.{◌-◌}
use Rattle.tables.proofs.Lines.{passed_more, failed_at, passed_all}
use Rattle.overlaps.proofs.first_overlap.Goals as goal

pub returns-then-not-is_clear : goal.returns-then-not-is_clear
returns-then-not-is_clear c =
    failed_at c.loop-v.invariant c.loop-v-test.true c.is_clear.ensures (ap not c.if-not-is_clear.true)

pub loop-v-preserved : goal.loop-v-preserved
loop-v-preserved c =
    passed_more c.loop-v.invariant c.loop-v-test.true c.is_clear.ensures (ap not c.if-not-is_clear.false)

pub returns : goal.returns
returns c = passed_all c.loop-v.invariant c.loop-v-test.false
