-- Three texts are one.
use Rattle.lines.proofs.Joining.{joined}
use Rattle.name_lines.proofs.put_name.Goals as goal

pub returns : goal.returns
returns c =
    joined (joined c.put-level.ensures c.put-named.ensures) c.put.ensures
