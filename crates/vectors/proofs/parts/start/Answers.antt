-- The first part, and the next one.
use Rattle.vectors.proofs.Parting.{first-starts, next-starts}
use Rattle.vectors.proofs.parts.start.Goals as goal

pub loop-passed-init : goal.loop-passed-init
loop-passed-init c = first-starts c.args.words.now

pub loop-passed-preserved : goal.loop-passed-preserved
loop-passed-preserved c =
    next-starts c.args.words.now c.loop-passed.passed c.loop-passed.at c.part_end-at.result c.loop-passed.invariant c.part_end-at.ensures
