-- What `ends_within` and `row_at` ensure, and the laws of a loop that seeks the first place that fails a test.
use mathlib.Core.Bool.{not}
use Prim.Native.Nat.{◌-◌}
use mathlib.Core.Path.{ap, ap₂, ◌∙◌}
use mathlib.Core.Bool.{◌&&◌}
use Rattle.content.specs.declared.Row.{Row}
use Rattle.tables.specs.Rows.{lies_in}
use Rattle.tables.proofs.Lines.{passed_more, failed_at, passed_all}
use Rattle.differences.proofs.calls.check_ends.Goals as goal

pub returns-then-not-ends_within : goal.returns-then-not-ends_within
returns-then-not-ends_within c =
    let row = c.row_at-row.ensures in
    let one = c.ends_within.ensures ∙ ap (λ (r : Row). lies_in r c.args.first.now) row in
    let other = c.ends_within-in-loop-v.ensures ∙ ap (λ (r : Row). lies_in r c.args.second.now) row in
    failed_at c.loop-v.invariant c.loop-v-test.true (ap₂ ◌&&◌ one other) (ap not c.if-not-ends_within.true)

pub loop-v-preserved : goal.loop-v-preserved
loop-v-preserved c =
    let row = c.row_at-row.ensures in
    let one = c.ends_within.ensures ∙ ap (λ (r : Row). lies_in r c.args.first.now) row in
    let other = c.ends_within-in-loop-v.ensures ∙ ap (λ (r : Row). lies_in r c.args.second.now) row in
    passed_more c.loop-v.invariant c.loop-v-test.true (ap₂ ◌&&◌ one other) (ap not c.if-not-ends_within.false)

pub returns : goal.returns
returns c = passed_all c.loop-v.invariant c.loop-v-test.false
