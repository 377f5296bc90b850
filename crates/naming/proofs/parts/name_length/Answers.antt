-- `name_length` meets its contract. The loop's invariant: the first k bytes are the name's.
use mathlib.Core.Path.{ap}
use native.Mathlib.Omega.{arith}
use Rattle.std.proofs.lemmas.Grind.{common_steps}
use lib.ListN.{length}
use Rattle.naming.proofs.Finding.{leading-ended, leading_on}
use Rattle.naming.proofs.parts.name_length.Goals as goal

pub loop-k-preserved : goal.loop-k-preserved
loop-k-preserved c = grind (arith, common_steps, leading_on)

pub returns : goal.returns
returns c = omega (arith, c.loop-k.invariant, ap length (leading-ended c.args.rest.now c.loop-k.k c.loop-k-test.false))
