-- `put_pointed` meets its contract.
use Prim.Native.Nat.{◌-◌}
use native.Mathlib.Omega.{arith}
use Rattle.std.proofs.lemmas.Grind.{common_steps}
use Rattle.pointing.proofs.Pointing.{pointed_put}
use Rattle.pointing.proofs.points.put_pointed.Goals as goal

pub returns : goal.returns
returns c = grind (arith, common_steps, pointed_put)
