-- Rests on one test, computed over the whole table.
use mathlib.Core.Path.{refl}
use Rattle.content.specs.Marks.{agree_below}
use Rattle.content.proofs.marks.marks.Goals as goal

pub returns : goal.returns
unfolding agree_below
returns c = refl
