-- `few_digits` meets its contract. The loop's invariant: every byte is a digit where every byte from the loop's place on is one. Assumes nothing.
use mathlib.Core.Path.{sym, ◌∙◌}
use Rattle.content.specs.Content.{all, is_digit}
use Rattle.content.proofs.Bytes.{all_then, all_end}
use Rattle.field_digits.proofs.digits.few_digits.Goals as goal

pub returns-then-not-is_digit : goal.returns-then-not-is_digit
returns-then-not-is_digit c =
    sym
    (c.loop-b.invariant
    ∙ all_then is_digit c.args.bytes.now _ c.loop-b-test.true
    (sym c.is_digit.ensures ∙ c.if-not-is_digit.true))

pub loop-b-preserved : goal.loop-b-preserved
loop-b-preserved c =
    c.loop-b.invariant
    ∙ all_then is_digit c.args.bytes.now _ c.loop-b-test.true
    (sym c.is_digit.ensures ∙ c.if-not-is_digit.false)

pub returns : goal.returns
returns c = sym (c.loop-b.invariant ∙ all_end is_digit c.args.bytes.now _ c.loop-b-test.false)
