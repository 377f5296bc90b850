-- Six parts.
use Rattle.lines.proofs.Lining.{begun, with_column, with_text}
use Rattle.change_lines.proofs.changes.put_change.Goals as goal

pub returns : goal.returns
returns c =
    let line1 = with_column (begun _ _) _ _ c.put_column-named.ensures in
    let line2 = with_column line1 _ _ c.put_column-said.ensures in
    let line3 = with_text line2 c.put_content-first.ensures in
    let line4 = with_text line3 c.put-arrow.ensures in
    let line5 = with_text line4 c.put_content-second.ensures in
    with_text line5 c.put.ensures
