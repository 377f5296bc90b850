-- `spell` meets its contract: from the laws of proofs/ and what its callees ensure. Assumes nothing.
use Rattle.literal_spans.proofs.Going.{Going}
use Rattle.literal_spans.proofs.steps.spell.Given as goal

abbrev pub invariant-loop-k : goal.invariant-loop-k
invariant-loop-k l = Going l.rest l.state l.k
