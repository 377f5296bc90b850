-- The count is the length of what would have been written.
use mathlib.Core.List.{[], ◌++◌}
use Prim.Native.Nat.{◌+◌, ◌-◌}
use native.Mathlib.Omega.{arith}
use lib.ListN.{length, get_or, length-append}
use Rattle.grammar.specs.Converted.{not_if}
use Rattle.conversion.specs.Steps.{step}
use Rattle.conversion.proofs.Progress.{start, further, ended}
use Rattle.conversion.proofs.words.converted_length.Goals as goal

pub loop-token-init : goal.loop-token-init
loop-token-init c = ([], start _)

pub loop-token-preserved : goal.loop-token-preserved
loop-token-preserved c =
    let l = c.loop-token in
    let x = get_or c.args.tokens.now l.token-index 0 in
    (l.invariant.0 ++ step l.waits x, rw c.step_width-count.ensures (further l.invariant.1 (omega arith)))

pub returns : goal.returns
returns c =
    let w = c.loop-token.invariant.0 in let p = c.loop-token.invariant.1 in
    rw (ended p (omega arith)) (omega (arith, p.size, c.not_width.ensures, length-append w (not_if c.loop-token.waits)))
