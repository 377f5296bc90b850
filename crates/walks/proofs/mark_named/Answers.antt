-- The invariant: the rows passed are marked.
use mathlib.Core.Path.{◌∙◌}
use Rattle.walker.proofs.Marking.{named_none, named_more}
use Rattle.walks.proofs.mark_named.Goals as goal

pub loop-k-init : goal.loop-k-init
loop-k-init c = named_none _ _ _

pub loop-k-preserved : goal.loop-k-preserved
loop-k-preserved c =
    rw c.plan_row-row.ensures at c.mark_condition.ensures ∙ named_more _ _ _ _ c.loop-k.invariant
