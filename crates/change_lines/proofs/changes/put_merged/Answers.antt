-- Five parts.
use Rattle.lines.proofs.Lining.{begun, with_number, with_text}
use Rattle.change_lines.proofs.changes.put_merged.Goals as goal

pub returns : goal.returns
returns c =
    let line1 = with_text (begun _ _) c.put-lead.ensures in
    let line2 = with_text line1 c.put-named.ensures in
    let line3 = with_text line2 c.put-middle.ensures in
    let line4 = with_number line3 c.put_number-figure.ensures in
    with_text line4 c.put.ensures
