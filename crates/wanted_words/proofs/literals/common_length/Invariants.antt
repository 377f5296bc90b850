-- `common_length` meets its contract: from the laws of proofs/ and what its callees ensure. Assumes nothing.
use Prim.Native.Nat.{◌+◌}
use mathlib.Core.Path.{◌≡◌}
use lib.ListN.{drop}
use Rattle.description.specs.Stages.{common}
use Rattle.wanted_words.proofs.literals.common_length.Given as goal

abbrev pub invariant-loop-k : goal.invariant-loop-k
invariant-loop-k l = common l.word l.rest ≡ l.k + common (drop l.k l.word) (drop l.k l.rest)
