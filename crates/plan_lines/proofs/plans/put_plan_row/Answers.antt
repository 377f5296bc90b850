-- Eight parts, two of them targets.
use Rattle.lines.proofs.Lining.{begun, with_column, with_line, with_number-column, with_text}
use Rattle.plan_lines.proofs.plans.put_plan_row.Goals as goal

pub returns : goal.returns
returns c =
    let line1 = with_text (begun _ _) c.put-lead.ensures in
    let line2 = with_number-column line1 c.put_number_column-number.ensures in
    let line3 = with_column line2 _ _ c.put_column-asked.ensures in
    let line4 = with_text line3 c.put-first.ensures in
    let line5 = with_line line4 c.put_target-true_way.ensures in
    let line6 = with_text line5 c.put-second.ensures in
    let line7 = with_line line6 c.put_target-false_way.ensures in
    with_text line7 c.put.ensures
