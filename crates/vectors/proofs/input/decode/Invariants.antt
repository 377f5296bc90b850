-- `decode` meets its contract.
use Rattle.vectors.proofs.Decoding.{Going}
use Rattle.vectors.proofs.input.decode.Given as goal

abbrev pub invariant-loop-count : goal.invariant-loop-count
invariant-loop-count l = Going l.raw l.initial.words l.words l.count l.at
