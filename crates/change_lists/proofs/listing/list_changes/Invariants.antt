use Prim.Native.Nat.{◌+◌, ◌≤◌}
use mathlib.Core.Path.{◌≡◌}
use mathlib.Core.List.{◌++◌}
use lib.ListN.{length, take, drop}
use Rattle.mending.specs.Mend.{changes_from}
use Rattle.change_lists.proofs.listing.list_changes.Given as goal

abbrev pub invariant-loop-i : goal.invariant-loop-i
invariant-loop-i l = (l.i ≤ length l.old) × (l.count ≡ length (changes_from l.at (take l.i l.old) (take l.i l.new))) × (length l.list ≡ length l.initial.list) ×
    (l.list ≡ changes_from l.at (take l.i l.old) (take l.i l.new) ++ drop l.count l.initial.list)
