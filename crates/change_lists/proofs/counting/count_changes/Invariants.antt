use Prim.Native.Nat.{◌*◌, ◌≤◌}
use mathlib.Core.Path.{◌≡◌}
use lib.ListN.{length, take}
use Rattle.mending.specs.Mend.{changes_from}
use Rattle.change_lists.proofs.counting.count_changes.Given as goal

abbrev pub invariant-loop-i : goal.invariant-loop-i
invariant-loop-i l = (l.i ≤ length l.old) × (l.count ≤ 3 * l.i) × (l.count ≡ length (changes_from l.at (take l.i l.old) (take l.i l.new)))
