-- What `test_of` and `test_typed` ensure.
use Rattle.typing.specs.Typing.{typed}
use Rattle.typing.proofs.sides.well_typed.Goals as goal

pub returns : goal.returns
unfolding typed
returns c = rw c.test_of.ensures at c.test_typed.ensures
