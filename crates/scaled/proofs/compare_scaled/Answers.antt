-- Rests on the laws of two signed values at their scales: both minus, both zero, and minus against plus.
use mathlib.Core.Path.{sym}
use Rattle.numbers.proofs.NumberLaws.{scaled_less, scaled_greater}
use Rattle.scaled.proofs.compare_scaled.Goals as goal

pub returns-then-minus1 : goal.returns-then-minus1
returns-then-minus1 c =
    let a = c.args in
    rw (c.if-minus1.true, c.if-minus2.false) (sym (scaled_less a.d1 a.s1 a.d2 a.s2 c.if-d1-d2.false))

pub returns-then-minus2-2 : goal.returns-then-minus2-2
returns-then-minus2-2 c =
    let a = c.args in
    rw (c.if-minus1.false, c.if-minus2-2.true) (sym (scaled_greater a.d1 a.s1 a.d2 a.s2 c.if-d1-d2-2.false))
