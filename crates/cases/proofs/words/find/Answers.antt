-- Found here, not here, or nowhere.
use Rattle.std.proofs.Common.{arith}
use Rattle.cases.proofs.Wording.{found_here, not_here, nowhere}
use Rattle.cases.proofs.words.find.Goals as goal

pub returns-then-text-at-clause-value : goal.returns-then-text-at-clause-value
returns-then-text-at-clause-value c = omega (arith, found_here c.args.text.now c.args.byte c.loop-at.at (omega arith) c.if-text-at.true)

pub loop-at-preserved : goal.loop-at-preserved
loop-at-preserved c =
    omega (arith, not_here c.args.text.now c.args.byte c.loop-at.at (omega arith) c.if-text-at.false)

pub returns-clause-value : goal.returns-clause-value
returns-clause-value c = omega (arith, nowhere c.args.text.now c.args.byte c.loop-at.at (omega arith))
