-- `above_by_value` meets its contract: from the laws of proofs/ and what its callees ensure. Assumes nothing.
use mathlib.Core.Path.{sym, ap, ◌∙◌}
use mathlib.Core.Bool.{false}
use Rattle.compare.specs.Order.{is_greater}
use Rattle.values.specs.Comparison.{side}
use Rattle.values.proofs.Reading.{by_value}
use Rattle.ranges.proofs.ends.above_by_value.Goals as goal

pub returns : goal.returns
returns c =
    let a = c.args in
    let s = side false a.low a.left.now in
    let o = side false a.high a.right.now in
    let order = rw (c.read_number-one.ensures, c.read_number-other.ensures) at c.compare_scaled-order.ensures in
    c.relation_holds.ensures ∙ ap is_greater (order ∙ sym (by_value s o c.requires.0.kind c.requires.1.kind))
