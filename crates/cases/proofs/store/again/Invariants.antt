-- `again` meets its contract.
use Rattle.std.proofs.Common.{◌≡◌, ◌-◌}
use Rattle.cases.specs.Stores.{again_from}
use Rattle.cases.proofs.store.again.Given as goal

abbrev pub invariant-loop-i : goal.invariant-loop-i
invariant-loop-i l = again_from l.store l.part l.i (l.end - l.i) ≡ again_from l.initial.store l.part l.from (l.end - l.from)
