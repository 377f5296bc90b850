-- One record after the other.
use mathlib.Core.Path.{◌≡◌}
use Prim.Native.Nat.{◌+◌, ◌-◌}
use native.Mathlib.Omega.{arith}
use Rattle.block_truths.proofs.Passing.{all_told}
use Rattle.block_rows.proofs.judge_each.Goals as goal

pub judge_record-requires : goal.judge_record-requires
judge_record-requires c =
    let l = c.loop-j in
    let a = c.args in
    let e : l.base + a.block.size - l.base ≡ a.block.size = omega arith in
    rw (e, l.invariant.starts) (c.requires.judgeable.readable l.j (omega arith))

pub returns : goal.returns
returns c = all_told c.loop-j.invariant (omega arith)
