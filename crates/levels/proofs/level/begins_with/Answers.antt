-- `begins_with` meets its contract: from the laws of proofs/ and what its callees ensure. Assumes nothing.
use native.Mathlib.Omega.{arith}
use mathlib.Core.Path.{refl, sym, ◌∙◌}
use Rattle.description.specs.Reader.{some_below}
use Rattle.levels.specs.Stack.{groups_of}
use Rattle.levels.proofs.Stack.{second_yes, second_no}
use Rattle.levels.proofs.level.begins_with.Goals as goal

pub loop-n-init : goal.loop-n-init
unfolding some_below
loop-n-init c = refl

pub returns-then-enters_with : goal.returns-then-enters_with
returns-then-enters_with c = second_yes (groups_of c.args.stack.now c.args.depth c.args.waiting) c.args.a c.loop-n.n
    (omega arith) (sym c.enters_with.ensures ∙ c.if-enters_with.true)

pub loop-n-preserved : goal.loop-n-preserved
loop-n-preserved c = second_no (groups_of c.args.stack.now c.args.depth c.args.waiting) c.args.a c.loop-n.n
    c.loop-n.invariant (sym c.enters_with.ensures ∙ c.if-enters_with.false)
