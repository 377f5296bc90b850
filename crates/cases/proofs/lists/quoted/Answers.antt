-- One byte more, the closing quote, or none.
use Rattle.std.proofs.Common.{sym, ◌∙◌, arith}
use Rattle.cases.proofs.Listing.{one_byte, quote_here, no_quote}
use Rattle.cases.proofs.lists.quoted.Goals as goal

pub returns-then-text-i-eq34 : goal.returns-then-text-i-eq34
returns-then-text-i-eq34 c = sym (quote_here c.args.part c.args.text.now c.loop-i.store c.loop-i.i (omega arith) c.if-text-i-eq34.true) ∙ c.loop-i.invariant

pub loop-i-preserved : goal.loop-i-preserved
loop-i-preserved c =
    let next = one_byte c.args.part c.args.text.now c.loop-i.store c.push.new.store c.loop-i.i (omega arith) c.if-text-i-eq34.false
    (rw c.from.ensures at c.push.ensures) in
    next ∙ c.loop-i.invariant

pub returns : goal.returns
returns c = sym (no_quote c.args.part c.args.text.now c.loop-i.store c.loop-i.i (omega arith)) ∙ c.loop-i.invariant
