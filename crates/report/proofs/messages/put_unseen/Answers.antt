-- Nothing where the byte is seen; else words and two digits, which are one text.
use mathlib.Core.Path.{◌≡◌}
use mathlib.Core.Bool.{false}
use Rattle.lines.proofs.Joining.{joined}
use Rattle.report.specs.Messages.{is_seen}
use Rattle.report.proofs.messages.put_unseen.Goals as goal

pub returns : goal.returns
returns c =
    let L = c.put-lead.ensures in
    let H = c.put_hex-told.ensures in
    let F = c.put-2.ensures in
    let hidden : is_seen c.args.byte ≡ false = c.if-byte.false in
    rw hidden (joined (joined L H) F)
