-- `repeat` meets its contract.
use Rattle.std.proofs.Common.{◌≡◌, ◌-◌}
use Rattle.cases.specs.Stores.{times_more}
use Rattle.cases.proofs.store.repeat.Given as goal

abbrev pub invariant-loop-done : goal.invariant-loop-done
invariant-loop-done l = times_more l.store l.part l.from (l.end - l.from) (l.times - l.done) ≡ times_more l.initial.store l.part l.from (l.end - l.from) (l.times - 1)
