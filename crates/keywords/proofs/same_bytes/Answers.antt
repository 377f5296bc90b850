-- `same_bytes` meets its contract: from the laws of proofs/ and what its callees ensure. Assumes nothing.
use native.Mathlib.Omega.{arith}
use Rattle.std.proofs.lemmas.Grind.{common_steps}
use Rattle.keywords.proofs.Same.{same_is}
use Rattle.keywords.proofs.same_bytes.Goals as goal

pub returns : goal.returns
returns c = grind (arith, common_steps, same_is)
