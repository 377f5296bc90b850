-- `word_index` meets its contract. The loop's invariant: none of the first k words is it.
use mathlib.Core.Path.{◌≡◌}
use Prim.Native.Nat.{◌+◌}
use lib.ListN.{drop}
use Rattle.spelling.specs.Meanings.{position}
use Rattle.vocabulary.specs.Spellings.{spelt}
use Rattle.vocabulary.proofs.spellings.word_index.Given as goal

abbrev pub invariant-loop-k : goal.invariant-loop-k
invariant-loop-k l = position l.w spelt ≡ l.k + position l.w (drop l.k spelt)
