-- `literal_size` meets its contract.
use Prim.Native.Nat.{◌-◌}
use Rattle.spelling.specs.Literals.{pointed}
use Rattle.tables.specs.Rows.{part}
use Rattle.printer.proofs.Literally.{lies, small, scaled}
use Rattle.printer.proofs.tokens.literal_size.Goals as goal

pub row_part-part-requires : goal.row_part-part-requires
row_part-part-requires c = lies c.args.row c.args.bytes.now c.requires

pub pointed_size-requires : goal.pointed_size-requires
pointed_size-requires c = rw (c.wide.ensures, c.row_part-part.ensures) (
  scaled c.args.row c.args.bytes.now c.requires,
  small c.args.row c.args.bytes.now c.requires,
)
