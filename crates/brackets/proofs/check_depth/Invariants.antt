-- The loop's invariant: the check of all tokens is the check of those from `at` on, with at most 16 brackets open.
use Prim.Native.Nat.{ℕ, ◌≤◌}
use mathlib.Core.Path.{◌≡◌}
use mathlib.Core.List.{List}
use lib.ListN.{length, drop}
use Rattle.grammar.specs.Depth.{depth_from, depth_check}
use Rattle.brackets.proofs.check_depth.Given as goal

-- the loop has come to a place, with so many brackets open
pub record Reached (tokens : List ℕ) (opened at : ℕ) : Type 0 where
  pub within : at ≤ length tokens
  pub most : opened ≤ 16
  pub same : depth_check tokens ≡ depth_from at opened (drop at tokens)

abbrev pub invariant-loop-at : goal.invariant-loop-at
invariant-loop-at l = Reached l.tokens l.opened l.at
