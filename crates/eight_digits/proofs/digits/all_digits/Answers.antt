-- Rests on the law of the test of eight bytes at once.
use native.Mathlib.Omega.{arith}
use Rattle.std.proofs.lemmas.Grind.{common_steps}
use Rattle.eight_digits.proofs.TestLaws.{test_is}
use Rattle.eight_digits.proofs.digits.all_digits.Goals as goal

pub returns : goal.returns
returns c = grind (arith, common_steps, test_is)
