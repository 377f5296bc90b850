-- A text, and spaces up to the width.
use Prim.Native.Nat.{◌-◌}
use Rattle.lines.proofs.Joining.{joined}
use Rattle.lines.proofs.text.put_column.Goals as goal

pub returns : goal.returns
returns c = joined c.put-end.ensures c.put_spaces.ensures
