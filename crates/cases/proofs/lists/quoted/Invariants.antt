-- `quoted` meets its contract.
use Rattle.std.proofs.Common.{◌≡◌, drop}
use Rattle.cases.specs.Stores.{pushed_all}
use Rattle.cases.specs.Words.{before}
use Rattle.cases.proofs.lists.quoted.Given as goal

abbrev pub invariant-loop-i : goal.invariant-loop-i
invariant-loop-i l = pushed_all l.store l.part (before 0x22 (drop l.i l.text)) ≡ pushed_all l.initial.store l.part (before 0x22 (drop 1 l.text))
