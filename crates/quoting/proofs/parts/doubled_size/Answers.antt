-- `doubled_size` meets its contract. The loop's invariant: `size` bytes for the first bytes.
use native.Mathlib.Omega.{arith}
use Rattle.quoting.proofs.Doubling.{size_on, size_end}
use Rattle.quoting.proofs.parts.doubled_size.Goals as goal

pub loop-b-preserved : goal.loop-b-preserved
loop-b-preserved c =
    let s = size_on c.args.part.now c.loop-b.b-index c.stride-size.result c.loop-b-test.true c.stride-size.ensures in
    (omega (arith, s.1, c.loop-b.invariant.0), omega (arith, s.0, c.loop-b.invariant.1))

pub returns : goal.returns
returns c = omega (arith, c.loop-b.invariant.1, size_end c.args.part.now c.loop-b.b-index c.loop-b-test.false)
