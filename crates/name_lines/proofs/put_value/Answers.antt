-- A value, or two with a word between them.
use Rattle.lines.proofs.Joining.{joined}
use Rattle.name_lines.proofs.put_value.Goals as goal

pub returns-then-not-range : goal.returns-then-not-range
returns-then-not-range c =
    let one = c.if-not-range.true in
    rw one (joined (joined c.put-parted.ensures c.put-first.ensures) c.put.ensures)

pub returns : goal.returns
returns c =
    let two = c.if-not-range.false in
    let range = joined c.put-through.ensures c.put-2.ensures in
    rw two (joined (joined c.put-parted.ensures c.put-first.ensures) range)
