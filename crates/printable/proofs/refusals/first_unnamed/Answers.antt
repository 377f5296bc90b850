-- `first_unnamed` meets its contract. The loop's invariant: the first i tokens pass.
use native.Mathlib.Omega.{arith}
use Rattle.std.proofs.lemmas.Grind.{common_steps}
use Rattle.naming.specs.Named.{known_at}
use Rattle.spelling.specs.Printing.{has_name}
use Rattle.printable.proofs.Passed.{passed_end, fails_here, passes_on}
use Rattle.printable.proofs.refusals.first_unnamed.Goals as goal

pub returns-then-not-has_name : goal.returns-then-not-has_name
returns-then-not-has_name c = grind (arith, common_steps, fails_here)

pub loop-i-preserved : goal.loop-i-preserved
loop-i-preserved c = grind (arith, common_steps, passes_on)

pub returns : goal.returns
returns c = omega (
  arith,
  c.loop-i.invariant,
  passed_end (has_name (known_at c.args.description.now
      c.args.items c.args.places.now)) c.args.tokens.now c.loop-i.i (omega arith),
)
