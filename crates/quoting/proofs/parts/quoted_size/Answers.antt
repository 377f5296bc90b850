-- `quoted_size` meets its contract.
use Prim.Native.Nat.{◌-◌}
use native.Mathlib.Omega.{arith}
use Rattle.quoting.proofs.Doubling.{doubled-most}
use Rattle.quoting.proofs.parts.quoted_size.Goals as goal

pub overflow_add-result : goal.overflow_add-result
overflow_add-result c = omega (arith, c.doubled_size.ensures, doubled-most c.args.part.now, c.requires)
