-- What `test_of`, `shape_sound` and `test_typed` ensure; a sound shape is what `test_typed` requires.
use mathlib.Core.List.{[]}
use native.Mathlib.Omega.{arith}
use Rattle.std.proofs.lemmas.Grind.{common_steps}
use Rattle.tables.proofs.Lines.{passes}
use Rattle.typing.specs.Typing.{typed}
use Rattle.typing.proofs.Lending.{test_lent}
use Rattle.shapes.proofs.condition_sound.Goals as goal

pub returns : goal.returns
unfolding typed
returns c = grind (arith, common_steps, passes, test_lent)
