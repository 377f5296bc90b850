-- `item_with` meets its contract.
use Rattle.std.proofs.Common.{◌≡◌, ◌-◌}
use Rattle.logbook_program.specs.Worded.{first_with}
use Rattle.logbook_program.proofs.wording.item_with.Given as goal

abbrev pub invariant-loop-v : goal.invariant-loop-v
invariant-loop-v l = first_with l.items l.byte l.v (l.count - l.v) ≡ first_with l.items l.byte 0 l.count
