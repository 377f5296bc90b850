use Prim.Native.Nat.{◌≤◌}
use mathlib.Core.Path.{◌≡◌}
use Rattle.items.specs.Items.{each_below, clear_of}
use Rattle.overlaps.proofs.is_clear.Given as goal

abbrev pub invariant-loop-u : goal.invariant-loop-u
invariant-loop-u l = (l.u ≤ l.v) × (l.clear ≡ each_below (clear_of l.items l.v) l.u)
