-- Rests on what the number that is read of a numeric side says of it, and on what the other callees return.
use mathlib.Core.Path.{refl, sym, ◌∙◌}
use mathlib.Core.Bool.{false}
use Rattle.values.specs.Comparison.{side}
use Rattle.values.proofs.Reading.{by_value}
use Rattle.values.proofs.Faults.{number_faulty, object-stops, relation_goes}
use Rattle.outcomes.proofs.sides.value_outcome.Goals as goal

pub returns-then-right_stops : goal.returns-then-right_stops
returns-then-right_stops c =
    let a = c.args in
    let s = side a.item1 a.row1 a.bytes1.now in
    let o = side a.item2 a.row2 a.bytes2.now in
    let one = number_faulty s o.row c.requires.1.kind c.read_number-left.ensures in
    let other = number_faulty o s.row c.requires.0.kind c.read_number-right.ensures in
    object-stops a.word a.negated {s = s} {s' = s} {o = o} {o' = o} refl refl
    (sym one ∙ c.if-left_stops.false) (sym other ∙ c.if-right_stops.true) c.stop_at-then-right_stops.ensures

pub returns : goal.returns
returns c =
    let a = c.args in
    let s = side a.item1 a.row1 a.bytes1.now in
    let o = side a.item2 a.row2 a.bytes2.now in
    let m = c.requires.0.kind in
    let n = c.requires.1.kind in
    let one = c.read_number-left.ensures in
    let other = c.read_number-right.ensures in
    let order = rw (one, other) at c.compare_scaled-order.ensures in
    rw c.relation_holds.ensures at c.truth_value.ensures
    ∙ relation_goes a.word a.negated {s = s} {s' = s} {o = o} {o' = o} refl refl
    (sym (number_faulty s o.row n one) ∙ c.if-left_stops.false) (sym (number_faulty o s.row m other) ∙ c.if-right_stops.false)
    (order ∙ sym (by_value s o m n))
