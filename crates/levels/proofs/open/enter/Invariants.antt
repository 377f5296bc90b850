-- `enter` meets its contract: no open group above these has members of this level. Assumes nothing.
use mathlib.Core.Path.{◌≡◌}
use Rattle.levels.specs.Stack.{back_depth}
use Rattle.levels.proofs.open.enter.Given as goal

abbrev pub invariant-loop-d : goal.invariant-loop-d
invariant-loop-d l = back_depth l.stack l.depth l.level ≡ back_depth l.stack l.d l.level
