-- Three parts.
use Rattle.lines.proofs.Lining.{begun, with_number, with_text}
use Rattle.entry_lines.proofs.entries.put_entry.Goals as goal

pub returns : goal.returns
returns c =
    let line1 = with_text (begun _ _) c.put-lead.ensures in
    let line2 = with_number line1 c.put_number-figure.ensures in
    with_text line2 c.put.ensures
