-- `next_word` meets its contract. The loop's invariant: the words from `at` on are those from `from` on.
use mathlib.Core.Path.{◌≡◌}
use lib.ListN.{drop}
use Rattle.spelling.specs.Words.{words_from}
use Rattle.splitter.proofs.splits.next_word.Given as goal

abbrev pub invariant-loop-at : goal.invariant-loop-at
invariant-loop-at l = words_from 0 l.from (drop l.from l.text) ≡ words_from 0 l.at (drop l.at l.text)
