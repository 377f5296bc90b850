-- What `ends_within` and `row_at` ensure, and the laws of a loop that seeks the first place that fails a test.
use mathlib.Core.Bool.{not}
use Prim.Native.Nat.{◌-◌}
use mathlib.Core.Path.{ap, ◌∙◌}
use Rattle.content.specs.declared.Row.{Row}
use Rattle.tables.specs.Rows.{row_at, lies_in}
use Rattle.tables.proofs.Lines.{passed_more, failed_at, passed_all}
use Rattle.checks.proofs.lent.check_record.Goals as goal

pub returns-then-not-ends_within : goal.returns-then-not-ends_within
returns-then-not-ends_within c =
    let same = c.ends_within.ensures ∙ ap (λ (r : Row). lies_in r c.args.record.now) c.row_at.ensures in
    failed_at c.loop-v.invariant c.loop-v-test.true same (ap not c.if-not-ends_within.true)

pub loop-v-preserved : goal.loop-v-preserved
loop-v-preserved c =
    let same = c.ends_within.ensures ∙ ap (λ (r : Row). lies_in r c.args.record.now) c.row_at.ensures in
    passed_more c.loop-v.invariant c.loop-v-test.true same (ap not c.if-not-ends_within.false)

pub returns : goal.returns
returns c = passed_all c.loop-v.invariant c.loop-v-test.false
