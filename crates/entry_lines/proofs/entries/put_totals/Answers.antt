-- Eight parts.
use Rattle.lines.proofs.Lining.{begun, with_number, with_text}
use Rattle.entry_lines.proofs.entries.put_totals.Goals as goal

pub returns : goal.returns
returns c =
    let line1 = with_number (begun _ _) c.put_number-all.ensures in
    let line2 = with_text line1 c.put-first.ensures in
    let line3 = with_number line2 c.put_number-true_ones.ensures in
    let line4 = with_text line3 c.put-second.ensures in
    let line5 = with_number line4 c.put_number-false_ones.ensures in
    let line6 = with_text line5 c.put-third.ensures in
    let line7 = with_number line6 c.put_number-stops.ensures in
    with_text line7 c.put.ensures
