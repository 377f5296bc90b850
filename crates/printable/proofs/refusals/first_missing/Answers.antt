-- `first_missing` meets its contract. The loop's invariant: the first i tokens pass.
use native.Mathlib.Omega.{arith}
use Rattle.std.proofs.lemmas.Grind.{common_steps}
use Rattle.printable.specs.Passing.{may_print}
use Rattle.printable.proofs.Passed.{passed_end, fails_here, passes_on}
use Rattle.printable.proofs.refusals.first_missing.Goals as goal

pub returns-then-not-may_print : goal.returns-then-not-may_print
returns-then-not-may_print c = grind (arith, common_steps, fails_here)

pub loop-i-preserved : goal.loop-i-preserved
loop-i-preserved c = grind (arith, common_steps, passes_on)

pub returns : goal.returns
returns c = omega (
  arith,
  c.loop-i.invariant,
  passed_end (may_print c.args.items c.args.literals
      c.args.names) c.args.tokens.now c.loop-i.i (omega arith),
)
