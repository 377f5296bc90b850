-- Nine parts.
use Rattle.lines.proofs.Lining.{begun, with_number, with_text}
use Rattle.verdict_lines.proofs.verdicts.put_stop.Goals as goal

pub returns : goal.returns
returns c =
    let line1 = with_text (begun _ _) c.put-lead.ensures in
    let line2 = with_text line1 c.put-asked.ensures in
    let line3 = with_text line2 c.put-second.ensures in
    let line4 = with_text line3 c.put-named.ensures in
    let line5 = with_text line4 c.put-middle.ensures in
    let line6 = with_number line5 c.put_number-place.ensures in
    let line7 = with_text line6 c.put-then.ensures in
    let line8 = with_text line7 c.put_hex-content.ensures in
    with_text line8 c.put.ensures
