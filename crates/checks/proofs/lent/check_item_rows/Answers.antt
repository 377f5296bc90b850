-- What `row_sound` and `row_at` ensure, and the laws of a loop that seeks the first place that fails a test.
use mathlib.Core.Bool.{not}
use Prim.Native.Nat.{◌-◌}
use mathlib.Core.Path.{ap, ◌∙◌}
use Rattle.tables.specs.Rows.{row_at, row_sound}
use Rattle.tables.proofs.Lines.{passed_more, failed_at, passed_all}
use Rattle.checks.proofs.lent.check_item_rows.Goals as goal

pub returns-then-not-row_sound : goal.returns-then-not-row_sound
returns-then-not-row_sound c =
    let same = c.row_sound.ensures ∙ ap row_sound c.row_at.ensures in
    failed_at c.loop-v.invariant c.loop-v-test.true same (ap not c.if-not-row_sound.true)

pub loop-v-preserved : goal.loop-v-preserved
loop-v-preserved c =
    let same = c.row_sound.ensures ∙ ap row_sound c.row_at.ensures in
    passed_more c.loop-v.invariant c.loop-v-test.true same (ap not c.if-not-row_sound.false)

pub returns : goal.returns
returns c = passed_all c.loop-v.invariant c.loop-v-test.false
