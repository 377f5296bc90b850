-- Eight parts.
use Rattle.lines.proofs.Lining.{begun, with_column, with_number, with_number-column, with_text}
use Rattle.item_lines.proofs.rows.put_item.Goals as goal

pub returns : goal.returns
returns c =
    let line1 = with_number-column (begun _ _) c.put_number_column-number.ensures in
    let line2 = with_column line1 _ _ c.put_column-named.ensures in
    let line3 = with_column line2 _ _ c.put_kind-kind.ensures in
    let line4 = with_number-column line3 c.put_number_column-offset.ensures in
    let line5 = with_number-column line4 c.put_number_column-size.ensures in
    let line6 = with_number-column line5 c.put_number_column-digits.ensures in
    let line7 = with_number line6 c.put_number-scale.ensures in
    with_text line7 c.put.ensures
