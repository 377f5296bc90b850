-- The invariant: none of the ranges passed holds the item.
use Prim.Native.Nat.{ℕ}
use mathlib.Core.Path.{◌≡◌}
use mathlib.Core.Bool.{Bool, true, false}
use mathlib.Core.List.{List, []}
use Rattle.tables.specs.Operands.{lend}
use Rattle.tables.specs.Names.{name_low, name_high}
use Rattle.values.specs.Comparison.{Side, side}
use Rattle.values.specs.Names.{some, literal_side, in_range}
use Rattle.names.proofs.ranges.some_range.Given as goal

-- range j of the name
abbrev pub lies : Side → List ℕ → List ℕ → List ℕ → ℕ → ℕ → Bool
lies item literals bytes names v j =
    in_range item (literal_side (lend [] literals bytes) (name_low names v j)) (literal_side (lend [] literals bytes) (name_high names v j))

abbrev pub invariant-loop-k : goal.invariant-loop-k
invariant-loop-k l = some (lies (side true l.row l.part) l.literals l.bytes l.names l.v) l.k ≡ false
