-- As itself, or after a stroke.
use mathlib.Core.Path.{sym, ◌∙◌}
use Rattle.lines.proofs.Joining.{joined}
use Rattle.change_lines.proofs.contents.put_byte.Goals as goal

pub returns : goal.returns
returns c =
    rw (sym c.is_shown.ensures ∙ c.if-is_shown.false) (joined c.put-stroke.ensures c.put_hex.ensures)
