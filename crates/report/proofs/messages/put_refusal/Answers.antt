-- Word, number, sentence and line feed are one text.
use Rattle.lines.proofs.Joining.{joined}
use Rattle.report.proofs.messages.put_refusal.Goals as goal

pub returns : goal.returns
returns c =
    let P = c.put-said.ensures in
    let N = c.put_number-figure.ensures in
    let C = c.put-parted.ensures in
    let S = c.put_sentence-told.ensures in
    let F = c.put.ensures in
    record { digits = N.text; decimal = N.decimal; puts = joined (joined (joined (joined P N.puts) C) S) F }
