use native.Mathlib.Omega.{arith}
use mathlib.Core.Path.{sym, ◌∙◌}
use borrow.Author.Tests.{eqb-true, eqb-false}
use Rattle.std.proofs.lemmas.List.{set-get_or}
use Rattle.meters.proofs.Filling.{filling_more, filling_stop, filling_end}
use Rattle.meters.proofs.kinds.fill.Goals as goal

pub returns-then-not-is_space : goal.returns-then-not-is_space
returns-then-not-is_space c =
    set-get_or c.loop-b.bytes c.loop-b.b-index 0
    ∙ filling_stop c.loop-b.invariant (omega arith) (eqb-false _ _ (sym c.is_space.ensures ∙ c.if-not-is_space.true))

pub loop-b-preserved : goal.loop-b-preserved
loop-b-preserved c =
    filling_more c.loop-b.invariant (omega arith) (eqb-true _ _ (sym c.is_space.ensures ∙ c.if-not-is_space.false))

pub returns : goal.returns
returns c = filling_end c.loop-b.invariant (omega arith)
