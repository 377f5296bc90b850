-- `is_above` meets its contract: from the laws of proofs/ and what its callees ensure. Assumes nothing.
use Rattle.tables.specs.Rows.{is_numeric}
use Rattle.values.proofs.Reading.{numeral}
use Rattle.description.proofs.Bytes.{and_both}
use Rattle.ranges.proofs.ends.is_above.Goals as goal

pub above_by_value-requires : goal.above_by_value-requires
above_by_value-requires c =
    let k = and_both (is_numeric c.args.low) (is_numeric c.args.high) (rw (c.is_numeric.ensures, c.is_numeric-2.ensures) at
    c.if-is_numeric.true) in
    (numeral c.requires.0 k.0, numeral c.requires.1 k.1)
