-- A line starts after each line feed.
use mathlib.Core.Path.{◌≡◌}
use Prim.Native.Nat.{◌-◌, ◌≤◌}
use lib.ListN.{drop}
use Rattle.line_places.specs.Places.{start_from}
use Rattle.line_places.proofs.places.line_start.Given as goal

abbrev pub invariant-loop-i : goal.invariant-loop-i
invariant-loop-i l = start_from l.start l.i (drop l.i l.before) ≡ start_from 0 0 l.before
