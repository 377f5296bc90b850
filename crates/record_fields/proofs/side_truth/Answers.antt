-- Two numeric sides by their values, others as any.
use mathlib.Core.Path.{sym, ◌∙◌}
use Rattle.tables.specs.Rows.{is_numeric}
use Rattle.tables.proofs.Tests.{both}
use Rattle.values.proofs.Reading.{numeral}
use Rattle.record_fields.proofs.side_truth.Goals as goal

pub value_truth-requires : goal.value_truth-requires
value_truth-requires c =
    let a = c.args in
    let n = both (is_numeric a.row1) (is_numeric a.row2) (sym c.requires.2 ∙ c.if-numeric.true) in
    (numeral c.requires.0 n.0, numeral c.requires.1 n.1)
