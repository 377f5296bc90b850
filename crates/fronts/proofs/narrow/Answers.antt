use Prim.Native.Nat.{◌<◌}
use native.Mathlib.Omega.{arith}
use native.Mathlib.Numerals.{add-one}
use lib.ListN.{length}
use Rattle.fronts.proofs.Narrowing.{narrow_more}
use Rattle.fronts.proofs.narrow.Goals as goal

pub loop-i-preserved : goal.loop-i-preserved
loop-i-preserved c =
    let l = c.loop-i in
    let room : l.i < length c.args.bytes.now = omega arith in
    (omega arith, rw (l.invariant.1, c.low_byte.ensures, add-one l.i) (narrow_more _ _ l.i (omega arith) room))
