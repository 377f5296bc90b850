-- `put_quoted` meets its contract.
use Prim.Native.Nat.{◌-◌}
use native.Mathlib.Omega.{arith}
use lib.ListN.{length}
use Rattle.std.proofs.lemmas.Grind.{common_steps}
use Rattle.quoting.proofs.Doubling.{quoted-length, quoted_put}
use Rattle.quoting.proofs.parts.put_quoted.Goals as goal

pub returns : goal.returns
returns c = grind (arith, common_steps, quoted-length, quoted_put)
