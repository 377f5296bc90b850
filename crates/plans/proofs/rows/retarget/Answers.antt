use mathlib.Core.Path.{sym, ◌∙◌}
use Prim.Native.Nat.{◌-◌}
use native.Mathlib.Omega.{arith}
use lib.ListN.{length, length-set}
use Rattle.plans.specs.Rows.{turn}
use Rattle.plans.proofs.Buffer.{turned_more, turned_end}
use Rattle.plans.proofs.rows.retarget.Goals as goal

pub loop-i-preserved : goal.loop-i-preserved
loop-i-preserved c =
    let s = c.args in
    let l = c.loop-i in (
      simp length-set l.invariant.0,
      turned_more s.holds.number s.fails.number l.rows s.end l.i c.aimed.result c.aimed-in-loop-i.result
          (omega arith) (omega arith) c.aimed.ensures c.aimed-in-loop-i.ensures
          ∙ l.invariant.1,
    )

pub returns : goal.returns
returns c =
    let s = c.args in
    let l = c.loop-i in
    sym (turned_end s.holds.number s.fails.number l.rows s.end l.i (omega arith)) ∙ l.invariant.1
