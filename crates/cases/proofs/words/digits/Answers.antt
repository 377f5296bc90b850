-- One digit more, or none.
use Rattle.std.proofs.Common.{sym, ◌∙◌, arith}
use Rattle.cases.proofs.Wording.{one_digit, all_digits}
use Rattle.cases.proofs.words.digits.Goals as goal

pub loop-byte-preserved : goal.loop-byte-preserved
loop-byte-preserved c =
    let next = one_digit c.args.text.now c.args.radix c.loop-byte.value c.loop-byte.byte-index c.append-value.result (omega arith) (rw c.digit.ensures at c.append-value.ensures) in
    next ∙ c.loop-byte.invariant

pub returns : goal.returns
returns c = sym (all_digits c.args.text.now c.args.radix c.loop-byte.value c.loop-byte.byte-index (omega arith)) ∙ c.loop-byte.invariant
