-- `next_ink` meets its contract: from the laws of proofs/ and what its callees ensure. Assumes nothing.
use mathlib.Core.Path.{◌≡◌}
use Rattle.description.specs.Stages.{inked}
use Rattle.text_bytes.proofs.blanks.next_ink.Given as goal

abbrev pub invariant-loop-k : goal.invariant-loop-k
invariant-loop-k l = inked l.text l.n ≡ inked l.text l.k
