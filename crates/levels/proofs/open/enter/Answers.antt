-- `enter` meets its contract: from the laws of proofs/ and what its callees ensure. Assumes nothing.
use Prim.Native.Nat.{◌+◌, ◌-◌}
use mathlib.Core.Path.{◌≡◌, refl}
use native.Mathlib.Omega.{arith}
use Rattle.std.proofs.lemmas.Grind.{common_steps}
use Rattle.levels.specs.Stack.{back_depth}
use Rattle.levels.proofs.Stack.{back_here, back_on, back_none, enter_none, enter-back}
use Rattle.levels.proofs.open.enter.Goals as goal

pub returns-then-stack-d : goal.returns-then-stack-d
returns-then-stack-d c =
    let a = c.args in
    let z : c.loop-d.d - 1 + 1 ≡ c.loop-d.d = omega arith in
    rw z
    (enter-back a.stack.now a.depth a.waiting a.level c.if-waiting-ne0.false c.if-level.false
    (back_here a.stack.now c.loop-d.d a.level (back_depth a.stack.now a.depth a.level) c.loop-d-test.true c.if-stack-d.true c.loop-d.invariant)
    (λ e. omega arith))

pub loop-d-preserved : goal.loop-d-preserved
loop-d-preserved c = back_on c.args.stack.now c.loop-d.d c.args.level (back_depth c.args.stack.now c.args.depth c.args.level)
    c.loop-d-test.true c.if-stack-d.false c.loop-d.invariant

pub returns : goal.returns
returns c =
    let a = c.args in
    enter_none a.stack.now a.depth a.waiting a.level c.if-waiting-ne0.false c.if-level.false
    (back_none a.stack.now c.loop-d.d a.level (back_depth a.stack.now a.depth a.level) c.loop-d-test.false c.loop-d.invariant) refl
