-- Tokens are passed one at a time.
use mathlib.Core.Path.{◌≡◌, sym, ◌∙◌}
use native.Mathlib.Omega.{arith}
use lib.ListN.{length}
use Rattle.positions.proofs.Stepping.{starts, passed, no_more}
use Rattle.positions.proofs.numbering.condition_token.Goals as goal

pub returns-then-starts_here : goal.returns-then-starts_here
returns-then-starts_here c =
    let l = c.loop-i in
    sym (starts c.args.tokens.now l.i l.left (omega arith) (sym c.starts_here.ensures ∙ c.if-starts_here.true)) ∙ l.invariant

pub loop-i-preserved : goal.loop-i-preserved
loop-i-preserved c =
    let l = c.loop-i in
    rw c.left_after-left.ensures (passed c.args.tokens.now l.i l.left (omega arith) (sym c.starts_here.ensures ∙ c.if-starts_here.false)) ∙ l.invariant

pub returns : goal.returns
returns c =
    let l = c.loop-i in
    let e : length c.args.tokens.now ≡ l.i = omega arith in
    e ∙ sym (no_more c.args.tokens.now l.i l.left (omega arith)) ∙ l.invariant
