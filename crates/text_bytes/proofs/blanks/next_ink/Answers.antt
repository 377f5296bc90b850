-- `next_ink` meets its contract: from the laws of proofs/ and what its callees ensure. Assumes nothing.
use Prim.Native.Nat.{◌-◌}
use native.Mathlib.Omega.{arith}
use mathlib.Core.Path.{sym, ◌∙◌}
use Rattle.text_bytes.proofs.Laws.{blank_more, blank_stop, blank_end}
use Rattle.text_bytes.proofs.blanks.next_ink.Goals as goal

pub returns-then-not-is_blank : goal.returns-then-not-is_blank
returns-then-not-is_blank c = blank_stop c.args.text.now c.args.n
    c.loop-k.k c.loop-k-test.true (sym c.is_blank.ensures ∙ c.if-not-is_blank.true)
    c.loop-k.invariant

pub loop-k-preserved : goal.loop-k-preserved
loop-k-preserved c = blank_more c.args.text.now c.args.n
    c.loop-k.k c.loop-k-test.true (sym c.is_blank.ensures ∙ c.if-not-is_blank.false)
    c.loop-k.invariant

pub returns : goal.returns
returns c = blank_end c.args.text.now c.args.n c.loop-k.k (omega arith) c.loop-k.auto.k-end c.loop-k-test.false c.loop-k.invariant c.max.ensures
