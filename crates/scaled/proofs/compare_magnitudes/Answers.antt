-- At one scale the digits decide; else the scale that is less is taken from both.
use mathlib.Core.Path.{sym, ◌∙◌}
use native.Mathlib.Omega.{arith}
use Rattle.numbers.proofs.NumberLaws.{same_scale, first_raised, second_raised}
use Rattle.scaled.proofs.compare_magnitudes.Goals as goal

pub returns-then-s1-s2 : goal.returns-then-s1-s2
returns-then-s1-s2 c =
    let a = c.args in
    c.order_of.ensures ∙ sym (same_scale a.d1 a.d2 c.if-s1-s2.true)

pub returns-then-s1-s2-2 : goal.returns-then-s1-s2-2
returns-then-s1-s2-2 c =
    let a = c.args in
    c.raised_first.ensures ∙ sym (first_raised a.d1 a.d2 a.s1 a.s2 (omega arith))

pub returns : goal.returns
returns c =
    let a = c.args in
    c.raised_second.ensures ∙ sym (second_raised a.d1 a.d2 a.s1 a.s2 (omega arith))
