-- `put_literal` meets its contract.
use mathlib.Core.Path.{ap}
use Prim.Native.Nat.{◌-◌}
use native.Mathlib.Omega.{arith}
use lib.ListN.{length}
use Rattle.spelling.specs.Literals.{pointed}
use Rattle.tables.specs.Rows.{part}
use Rattle.printer.proofs.Literally.{lies, scaled, with_point}
use Rattle.printer.proofs.tokens.put_literal.Goals as goal

pub row_part-part-requires : goal.row_part-part-requires
row_part-part-requires c = lies c.args.row c.args.bytes.now c.requires.0

pub put_pointed-requires : goal.put_pointed-requires
put_pointed-requires c = rw (c.wide.ensures, c.row_part-part.ensures) (
  scaled
      c.args.row c.args.bytes.now
      c.requires.0,
  omega (
    arith,
    ap length (with_point c.args.row
        c.args.bytes.now c.requires.0
        c.if-row-eq-ALPHANUMERIC.false),
    c.requires.1,
  ),
)
