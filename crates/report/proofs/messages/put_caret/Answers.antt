-- Spaces and the caret are one text.
use Rattle.lines.proofs.Joining.{joined}
use Rattle.report.proofs.messages.put_caret.Goals as goal

pub returns : goal.returns
returns c = joined c.put_spaces-under.ensures c.put.ensures
