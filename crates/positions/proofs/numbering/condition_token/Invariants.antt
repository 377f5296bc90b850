-- Tokens are passed one at a time.
use mathlib.Core.Path.{◌≡◌}
use Prim.Native.Nat.{◌+◌}
use lib.ListN.{drop}
use Rattle.positions.specs.Positions.{condition_token}
use Rattle.positions.proofs.numbering.condition_token.Given as goal

abbrev pub invariant-loop-i : goal.invariant-loop-i
invariant-loop-i l = l.i + condition_token l.left (drop l.i l.tokens) ≡ condition_token l.k l.tokens
