use native.Mathlib.Omega.{arith}
use Rattle.std.proofs.lemmas.Grind.{common_steps}
use Rattle.item_parts.proofs.Sameness.{same_pointwise}
use Rattle.item_parts.proofs.parts.same_bytes.Goals as goal

pub returns : goal.returns
returns c = grind (arith, common_steps, same_pointwise)
