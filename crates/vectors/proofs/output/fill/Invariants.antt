-- `fill` meets its contract.
use Rattle.std.proofs.Common.{length}
use Rattle.vectors.proofs.Summing.{Filling}
use Rattle.vectors.proofs.output.fill.Given as goal

abbrev pub invariant-loop-number : goal.invariant-loop-number
invariant-loop-number l = Filling l.output (length l.initial.output) l.next l.number-index
