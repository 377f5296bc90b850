-- `enters_with` meets its contract: from the laws of proofs/ and what its callees ensure. Assumes nothing.
use native.Mathlib.Omega.{arith}
use Rattle.std.proofs.lemmas.Grind.{common_steps}
use Rattle.levels.proofs.Stack.{enters_some}
use Rattle.levels.proofs.level.enters_with.Goals as goal

pub returns : goal.returns
returns c = grind (arith, common_steps, enters_some)
