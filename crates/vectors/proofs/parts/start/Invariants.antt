-- `start` meets its contract.
use Rattle.vectors.specs.Parts.{Starts}
use Rattle.vectors.proofs.parts.start.Given as goal

abbrev pub invariant-loop-passed : goal.invariant-loop-passed
invariant-loop-passed l = Starts l.words l.passed l.at
