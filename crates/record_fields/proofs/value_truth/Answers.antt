-- Two numbers that are valid have no fault; of others nothing is said.
use mathlib.Core.Path.{◌≡◌, refl, sym, ◌∙◌}
use mathlib.Core.Bool.{false, not, ◌&&◌, and-false}
use native.Mathlib.Omega.{arith}
use Rattle.std.proofs.lemmas.Grind.{common_steps}
use Rattle.tables.proofs.Tests.{both}
use Rattle.values.specs.Comparison.{side}
use Rattle.values.proofs.Reading.{by_value}
use Rattle.values.proofs.Faults.{number_faulty, relation_goes}
use Rattle.record_fields.proofs.Fitting.{right_for}
use Rattle.record_fields.proofs.value_truth.Goals as goal

pub returns : goal.returns
returns c =
    λ i j. let a = c.args in
    let s = side i a.row1 a.bytes1.now in
    let o = side j a.row2 a.bytes2.now in
    let m = c.requires.0.kind in
    let n = c.requires.1.kind in
    let one = c.read_number-left.ensures in
    let other = c.read_number-right.ensures in
    let fine = both c.read_number-left.result.valid c.read_number-right.result.valid c.if-not-left-right.false in
    let order = rw (one, other) at c.compare_scaled-order.ensures in
    let f1 : i && not c.read_number-left.result.valid ≡ false = rw fine.0 (and-false i) in
    let f2 : j && not c.read_number-right.result.valid ≡ false = rw fine.1 (and-false j) in
    right_for (rw c.relation_holds.ensures at c.truth_value.ensures ∙ relation_goes a.word a.negated {s = s} {s'
    = s} {o = o} {o' = o} refl refl (sym (number_faulty s o.row n one) ∙ f1) (sym (number_faulty o s.row m other) ∙ f2) (order ∙ sym (by_value s
    o m n))) c.truth_number.ensures
