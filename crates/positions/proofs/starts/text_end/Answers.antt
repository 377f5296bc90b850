-- Each byte that is no blank ends the text anew.
use mathlib.Core.Path.{sym, ◌∙◌}
use mathlib.Core.Bool.{true, false}
use mathlib.Core.Logic.{⊎_elim}
use native.Mathlib.Omega.{arith}
use Rattle.std.proofs.lemmas.Grind.{common_steps}
use Rattle.positions.proofs.Stepping.{turned, word_byte, blank_byte, all-bytes}
use Rattle.positions.proofs.starts.text_end.Goals as goal

pub loop-i-preserved : goal.loop-i-preserved
loop-i-preserved c = grind (arith, common_steps, turned, word_byte, blank_byte)

pub returns : goal.returns
returns c = let l = c.loop-i in sym (all-bytes c.args.text.now l.i l.end (omega arith)) ∙ l.invariant
