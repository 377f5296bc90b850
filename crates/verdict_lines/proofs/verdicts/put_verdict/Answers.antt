-- The verdict and the line after it.
use Rattle.lines.proofs.Lining.{begun, with_line, with_text}
use Rattle.verdict_lines.proofs.verdicts.put_verdict.Goals as goal

pub returns : goal.returns
returns c =
    let line1 = with_text (begun _ _) c.put_truth-said.ensures in
    with_line line1 c.put_judged.ensures
