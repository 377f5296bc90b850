-- Rests on the side that `row_of` and `operand_bytes` read, which holds a number, and on what the other callees return.
use mathlib.Core.Path.{refl, sym, ap, ◌∙◌}
use mathlib.Core.Bool.{false}
use Rattle.tables.specs.Rows.{is_numeric}
use Rattle.values.specs.Comparison.{side, wrong_byte}
use Rattle.values.specs.Truth.{sign_outcome}
use Rattle.values.proofs.Reading.{numeral, fit_near, read-side, read_fit}
use Rattle.values.proofs.Faults.{number_invalid, invalid_there, goes_on}
use Rattle.truth.proofs.conditions.sign_outcome.Goals as goal

pub read_number-number-requires : goal.read_number-number-requires
read_number-number-requires c =
    let row = c.row_of-row.ensures in
    (numeral (read_fit c.requires.sided row c.operand_bytes-part.ensures refl) (ap is_numeric row ∙ c.requires.subject_value)).field

pub stop_at-requires : goal.stop_at-requires
stop_at-requires c =
    let s = side c.is_item.result c.row_of-row.result c.operand_bytes-part.result.now in
    let fit = read_fit c.requires.sided c.row_of-row.ensures c.operand_bytes-part.ensures c.is_item.ensures in
    (fit_near fit, invalid_there false s (sym (number_invalid s c.read_number-number.ensures) ∙ c.if-is_item-number.true))

pub returns : goal.returns
returns c =
    let same = read-side c.requires.sided c.row_of-row.ensures c.operand_bytes-part.ensures c.is_item.ensures in
    let s = side c.is_item.result c.row_of-row.result c.operand_bytes-part.result.now in
    let flag = sym (number_invalid s c.read_number-number.ensures) ∙ c.if-is_item-number.false in
    let order = rw c.read_number-number.ensures at c.compare_zero-order.ensures in
    rw (c.sign_holds.ensures, order) at c.truth_value.ensures
    ∙ sym (goes_on s.row.kind (wrong_byte s) _ flag) ∙ ap (sign_outcome c.args.word c.args.negated) same
