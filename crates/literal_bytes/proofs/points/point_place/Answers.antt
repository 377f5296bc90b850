-- `point_place` meets its contract. The loop's invariant: there is no point among the first `i` bytes.
use native.Mathlib.Omega.{arith}
use Rattle.std.proofs.lemmas.Grind.{common_steps}
use Rattle.literal_bytes.proofs.Parting.{place-ended, place_here, place_on}
use Rattle.literal_bytes.proofs.points.point_place.Goals as goal

pub loop-i-preserved : goal.loop-i-preserved
loop-i-preserved c = grind (arith, common_steps, place_on)

pub returns : goal.returns
returns c = omega (arith, c.loop-i.invariant, place-ended c.args.word.now c.loop-i.i c.loop-i-test.false)
