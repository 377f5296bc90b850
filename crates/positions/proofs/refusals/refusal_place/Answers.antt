-- By the refusal's number, which the two laws tell apart.
use native.Mathlib.Omega.{arith}
use Rattle.std.proofs.lemmas.Grind.{common_steps}
use Rattle.positions.proofs.Stepping.{of_condition, of_token}
use Rattle.positions.proofs.refusals.refusal_place.Goals as goal

pub returns : goal.returns
returns c = grind (arith, common_steps, of_condition, of_token)
