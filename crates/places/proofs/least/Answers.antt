-- The least of the places passed.
use mathlib.Core.Path.{subst}
use Rattle.std.proofs.Common.{inl, inr}
use Prim.Native.Nat.{◌+◌}
use native.Mathlib.Omega.{arith}
use lib.ListN.{get_or}
use Rattle.std.proofs.lemmas.Bool.{cases_lt}
use Rattle.places.specs.Places.{Lowest}
use Rattle.places.proofs.Lowest.{lower, no_lower}
use Rattle.places.proofs.least.Goals as goal

pub loop-j-preserved : goal.loop-j-preserved
loop-j-preserved c =
    let l = c.loop-j in
    elim (cases_lt (get_or c.args.at.now l.j 0) l.low) [
      | inl less ↦ subst (λ n. Lowest c.args.at.now n (l.j + 1)) (omega arith) (lower l.invariant less)
      | inr least ↦ subst (λ n. Lowest c.args.at.now n (l.j + 1)) (omega arith) (no_lower l.invariant least)
    ]
