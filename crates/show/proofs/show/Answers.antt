-- Rests on what plan, run and expand ensure, and on demand 3: the counted numbers lie inside the buffers, and the answers are as it says.
use mathlib.Core.Path.{refl, sym}
use lib.Seq.{length-take-le}
use Rattle.show.proofs.Showing.{plan_inside, expand_inside, shown}
use Rattle.show.proofs.show.Goals as goal

pub slice_bounds-run-end : goal.slice_bounds-run-end
slice_bounds-run-end c = plan_inside _ _ _ (rw c.in-Ok.is at c.plan-planned.ensures.leaves)

pub slice_bounds-run-end-in-Ok : goal.slice_bounds-run-end-in-Ok
slice_bounds-run-end-in-Ok c = sym (length-take-le _ _ (plan_inside _ _ _ (rw c.in-Ok.is at c.plan-planned.ensures.leaves)))

pub slice_bounds-plan-end : goal.slice_bounds-plan-end
slice_bounds-plan-end c = expand_inside _ _ _ (rw c.in-Ok-expanded.is at c.expand-expanded.ensures.leaves)

pub slice_bounds-plan-end-in-Ok-expanded : goal.slice_bounds-plan-end-in-Ok-expanded
slice_bounds-plan-end-in-Ok-expanded c = sym (length-take-le _ _ (expand_inside _ _ _ (rw c.in-Ok-expanded.is at c.expand-expanded.ensures.leaves)))

pub returns-in-Err-expanded : goal.returns-in-Err-expanded
returns-in-Err-expanded c =
    shown _ _ _ _ _ _ _
    (rw c.in-Ok.is at c.plan-planned.ensures.leaves)
    c.run-judged.ensures.value
    (rw c.in-Err-expanded.is at c.expand-expanded.ensures.leaves)
    (refl, refl)

pub returns-in-Ok-expanded : goal.returns-in-Ok-expanded
returns-in-Ok-expanded c =
    shown _ _ _ _ _ _ _
    (rw c.in-Ok.is at c.plan-planned.ensures.leaves)
    c.run-judged.ensures.value
    (rw c.in-Ok-expanded.is at c.expand-expanded.ensures.leaves)
    c.plan.ensures.leaves
