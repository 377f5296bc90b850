-- One line less at each line feed.
use Rattle.std.proofs.Common.{sym, ◌∙◌, arith}
use Rattle.std.proofs.lemmas.Grind.{common_steps}
use Rattle.wordings.proofs.Tables.{line-behind, line_on, line_here, no_line}
use Rattle.wordings.proofs.sentences.line_at.Goals as goal

pub returns-then-left-eq0 : goal.returns-then-left-eq0
returns-then-left-eq0 c = (omega arith, sym (line_here c.args.text.now c.loop-i.i c.loop-i.left (omega arith)) ∙ c.loop-i.invariant)

pub loop-i-preserved : goal.loop-i-preserved
loop-i-preserved c = grind (arith, common_steps, line-behind, line_on)

pub returns : goal.returns
returns c = (omega arith, sym (no_line c.args.text.now c.loop-i.i c.loop-i.left (omega arith) (omega arith)) ∙ c.loop-i.invariant)
