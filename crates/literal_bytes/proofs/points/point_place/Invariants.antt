-- `point_place` meets its contract. The loop's invariant: there is no point among the first `i` bytes.
use mathlib.Core.Path.{◌≡◌}
use Prim.Native.Nat.{◌+◌}
use lib.ListN.{drop}
use Rattle.spelling.specs.Literals.{point_place}
use Rattle.literal_bytes.proofs.points.point_place.Given as goal

abbrev pub invariant-loop-i : goal.invariant-loop-i
invariant-loop-i l = point_place l.word ≡ l.i + point_place (drop l.i l.word)
