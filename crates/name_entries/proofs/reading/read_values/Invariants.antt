-- `read_values` meets its contract: from the laws of proofs/ and what its callees ensure. Assumes nothing.
use Prim.Native.Nat.{◌-◌}
use lib.ListN.{length}
use Rattle.name_entries.proofs.Going.{Going}
use Rattle.name_entries.proofs.reading.read_values.Given as goal

abbrev pub invariant-loop-found : goal.invariant-loop-found
invariant-loop-found l = Going l.text l.n l.item l.initial.tally l.initial.notes l.row l.notes l.tally l.at

abbrev pub decreases-loop-found : goal.decreases-loop-found
decreases-loop-found l = length l.text - l.at
