-- Words and numbers are one text.
use Rattle.lines.proofs.Joining.{joined}
use Rattle.report.proofs.messages.put_spot.Goals as goal

pub returns : goal.returns
returns c =
    let L = c.put-lead.ensures in
    let N = c.put_number-row.ensures in
    let C = c.put-middle.ensures in
    let M = c.put_number-place.ensures in
    let F = c.put.ensures in
    record {
      line_digits = N.text;
      column_digits = M.text;
      line_decimal = N.decimal;
      column_decimal = M.decimal;
      puts = joined (joined (joined (joined L N.puts) C) M.puts) F;
    }
