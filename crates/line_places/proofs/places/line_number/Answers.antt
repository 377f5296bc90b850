-- One line more at each line feed.
use Rattle.std.proofs.Common.{sym, ◌∙◌, arith}
use Rattle.std.proofs.lemmas.Grind.{common_steps}
use Rattle.line_places.proofs.Walking.{line-next, line_same, line-done}
use Rattle.line_places.proofs.places.line_number.Goals as goal

pub loop-byte-preserved : goal.loop-byte-preserved
loop-byte-preserved c = grind (arith, common_steps, line-next, line_same)

pub returns : goal.returns
returns c = sym (line-done c.args.before.now c.loop-byte.byte-index c.loop-byte.line (omega arith) (omega arith)) ∙ c.loop-byte.invariant.1
