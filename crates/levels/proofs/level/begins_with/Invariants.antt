-- `begins_with` meets its contract: no digit below n may come second. Assumes nothing.
use mathlib.Core.Path.{◌≡◌}
use mathlib.Core.Bool.{false}
use Rattle.levels.specs.Stack.{groups_of}
use Rattle.levels.proofs.Stack.{second_below}
use Rattle.levels.proofs.level.begins_with.Given as goal

abbrev pub invariant-loop-n : goal.invariant-loop-n
invariant-loop-n l = second_below (groups_of l.stack l.depth l.waiting) l.a l.n ≡ false
