-- One line more at each line feed.
use mathlib.Core.Path.{◌≡◌}
use Prim.Native.Nat.{◌+◌, ◌-◌, ◌≤◌}
use lib.ListN.{drop}
use Rattle.line_places.specs.Places.{lines_from}
use Rattle.line_places.proofs.places.line_number.Given as goal

abbrev pub invariant-loop-byte : goal.invariant-loop-byte
invariant-loop-byte l = (l.line ≤ l.byte-index + 1) × (lines_from l.line (drop l.byte-index l.before) ≡ lines_from 1 l.before)
