-- What has been spelled stands at the start of the output.
use mathlib.Core.List.{List}
use Prim.Native.Nat.{ℕ, ◌-◌}
use lib.ListN.{length}
use Rattle.expander.proofs.Progress.{Progress}
use Rattle.tables.proofs.Front.{Front}
use Rattle.expander.proofs.expand.write_expanded.Given as goal

abbrev pub invariant-loop-at : goal.invariant-loop-at
invariant-loop-at l = (w : List ℕ) × Progress l.tokens w l.at l.written l.carry × Front w l.initial.out l.written l.out

abbrev pub decreases-loop-at : goal.decreases-loop-at
decreases-loop-at l = length l.tokens - l.at
