-- `put_doubled` meets its contract. The loop's invariant: the first bytes are written, doubled.
use mathlib.Core.Path.{refl}
use native.Mathlib.Omega.{arith}
use lib.ListN.{length, length-set}
use Rattle.tables.proofs.Front.{copied-length, copied_all}
use Rattle.quoting.proofs.Doubling.{doubles_left, doubles_more, doubles_all}
use Rattle.quoting.proofs.parts.put_doubled.Goals as goal

pub bounds-out-n : goal.bounds-out-n
bounds-out-n c =
    omega (
      arith,
      doubles_left c.loop-b.invariant c.loop-b-test.true _ refl,
      copied-length c.loop-b.invariant.copied,
      c.requires,
    )

pub bounds-out-n-in-loop-b : goal.bounds-out-n-in-loop-b
bounds-out-n-in-loop-b c =
    simp length-set (omega (
      arith,
      doubles_left c.loop-b.invariant c.loop-b-test.true c.stride-n.result c.stride-n.ensures,
      copied-length c.loop-b.invariant.copied,
      c.requires,
    ))

pub loop-b-preserved : goal.loop-b-preserved
loop-b-preserved c = doubles_more c.loop-b.invariant c.loop-b-test.true c.stride-n.result c.stride-n.ensures

pub returns : goal.returns
returns c = copied_all c.loop-b.invariant.copied (doubles_all c.loop-b.invariant c.loop-b-test.false)
