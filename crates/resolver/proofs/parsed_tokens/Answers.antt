-- The "(" at which 8 refuses is one of the tokens.
use native.Mathlib.Omega.{arith}
use Rattle.std.proofs.lemmas.Grind.{common_steps}
use Rattle.resolver.proofs.Resolving.{eight_inside}
use Rattle.resolver.proofs.parsed_tokens.Goals as goal

pub overflow_add-result : goal.overflow_add-result
overflow_add-result c = grind (arith, common_steps, eight_inside)

pub returns-in-Err : goal.returns-in-Err
returns-in-Err c = grind (arith, common_steps, eight_inside)
