-- The number's whole part decides where it is not d, and else its rest.
use mathlib.Core.Path.{sym, ◌∙◌}
use native.Mathlib.Omega.{arith}
use Rattle.numbers.proofs.NumberLaws.{ten_pos, first_whole}
use Rattle.scaled.proofs.raised_first.Goals as goal

pub nonzero_div-whole : goal.nonzero_div-whole
nonzero_div-whole c = omega (arith, ten_pos c.args.k)

pub nonzero_rem-rest : goal.nonzero_rem-rest
nonzero_rem-rest c = omega (arith, ten_pos c.args.k)

pub returns : goal.returns
returns c =
    let a = c.args in
    c.order_of-2.ensures ∙ sym (first_whole a.d a.k a.other c.power_of_ten-p.ensures c.if-d-whole.false)
