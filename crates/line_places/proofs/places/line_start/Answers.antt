-- A line starts after each line feed.
use Rattle.std.proofs.Common.{sym, ◌∙◌, arith}
use Rattle.std.proofs.lemmas.Grind.{common_steps}
use Rattle.line_places.proofs.Walking.{start-next, start-same, start-done}
use Rattle.line_places.proofs.places.line_start.Goals as goal

pub loop-i-preserved : goal.loop-i-preserved
loop-i-preserved c = grind (arith, common_steps, start-next, start-same)

pub returns : goal.returns
returns c = sym (start-done c.args.before.now c.loop-i.i c.loop-i.start (omega arith) (omega arith)) ∙ c.loop-i.invariant
