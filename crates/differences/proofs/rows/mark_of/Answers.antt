-- What the two numbers that are read say of the item.
use mathlib.Core.Bool.{not}
use mathlib.Core.Path.{ap}
use mathlib.Core.Bool.{false}
use Rattle.tables.specs.Rows.{part}
use Rattle.tables.proofs.Lines.{passes}
use Rattle.differences.proofs.Marks.{first_field, second_field}
use Rattle.differences.proofs.rows.mark_of.Goals as goal

pub read_number-one-requires : goal.read_number-one-requires
read_number-one-requires c =
    first_field c.requires (passes c.is_numeric.ensures (ap not c.if-not-is_numeric.false)) c.row_part.ensures

pub read_number-other-requires : goal.read_number-other-requires
read_number-other-requires c =
    second_field c.requires (passes c.is_numeric.ensures (ap not c.if-not-is_numeric.false)) c.row_part-2.ensures
