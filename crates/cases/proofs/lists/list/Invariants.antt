-- `list` meets its contract.
use Rattle.std.proofs.Common.{◌≡◌, ◌-◌, length, drop}
use Rattle.cases.specs.Lists.{spaced, added_all}
use Rattle.cases.proofs.lists.list.Given as goal

abbrev pub invariant-loop-at : goal.invariant-loop-at
invariant-loop-at l = added_all l.store l.part (spaced (drop l.at l.text)) ≡ added_all l.initial.store l.part (spaced l.text)

abbrev pub decreases-loop-at : goal.decreases-loop-at
decreases-loop-at l = length l.text - l.at
