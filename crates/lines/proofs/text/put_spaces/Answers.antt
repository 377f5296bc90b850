-- One space after another.
use mathlib.Core.Path.{◌≡◌, subst}
use Prim.Native.Nat.{ℕ}
use native.Mathlib.Omega.{arith}
use lib.ListN.{replicate}
use Rattle.lines.specs.Put.{Puts}
use Rattle.lines.proofs.Joining.{put_nothing, another_space}
use Rattle.lines.proofs.text.put_spaces.Goals as goal

pub loop-init : goal.loop-init
loop-init c = put_nothing c.args.out.now c.args.at

pub loop-preserved : goal.loop-preserved
loop-preserved c = another_space c.loop.counter c.loop.invariant c.put-end.ensures

pub returns : goal.returns
returns c =
    let all : c.loop.counter ≡ c.args.count = omega arith in
    subst (λ (n : ℕ). Puts c.args.out.now c.args.at (replicate n 0x20) c.loop.end c.loop.out) all c.loop.invariant
