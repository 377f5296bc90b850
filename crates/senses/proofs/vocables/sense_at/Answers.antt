-- `sense_at` meets its contract.
use mathlib.Core.Bool.{false}
use Prim.Native.Nat.{◌-◌}
use native.Mathlib.Omega.{arith}
use Rattle.std.proofs.lemmas.Grind.{common_steps}
use Rattle.senses.proofs.Numbered.{other_is}
use Rattle.senses.proofs.vocables.sense_at.Goals as goal

pub returns-in_default : goal.returns-in_default
returns-in_default c = other_is c.args.k (omega arith)
