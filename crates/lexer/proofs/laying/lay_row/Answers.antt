-- `lay_row` meets its contract.
use Prim.Native.Nat.{◌-◌, ◌*◌}
use Rattle.lexer.proofs.Writing.{row-over}
use Rattle.lexer.proofs.laying.lay_row.Goals as goal

pub returns : goal.returns
returns c = row-over c.args.rows.now (c.args.v * 5) c.args.row.kind c.args.offset c.args.row.size c.args.row.scale c.args.row.digits c.requires.1
