-- `find` meets its contract.
use Rattle.std.proofs.Common.{◌≡◌, ◌+◌, length, drop}
use Rattle.cases.specs.Words.{before}
use Rattle.cases.proofs.words.find.Given as goal

abbrev pub invariant-loop-at : goal.invariant-loop-at
invariant-loop-at l = l.at + length (before l.byte (drop l.at l.text)) ≡ l.start + length (before l.byte (drop l.start l.text))
