-- `any_letter` meets its contract: from the laws of proofs/ and what its callees ensure. Assumes nothing.
use native.Mathlib.Omega.{arith}
use mathlib.Core.Path.{sym, ◌∙◌}
use Rattle.description.specs.Grammar.{any, is_letter}
use Rattle.words.proofs.Reaches.{any_more, any_here, any_end}
use Rattle.words.proofs.names.any_letter.Goals as goal

pub returns-then-is_letter : goal.returns-then-is_letter
returns-then-is_letter c = any_here is_letter c.args.w.now c.loop-b.b-index
    (omega arith) (sym c.is_letter.ensures ∙ c.if-is_letter.true) c.loop-b.invariant

pub loop-b-preserved : goal.loop-b-preserved
loop-b-preserved c = any_more is_letter c.args.w.now c.loop-b.b-index
    (omega arith) (sym c.is_letter.ensures ∙ c.if-is_letter.false) c.loop-b.invariant

pub returns : goal.returns
returns c = any_end is_letter c.args.w.now c.loop-b.b-index (omega arith) c.loop-b.invariant
