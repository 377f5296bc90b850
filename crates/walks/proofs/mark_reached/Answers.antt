-- Rests on the laws of a run that marks: what is left of it, marked too, makes the marks of the whole.
use mathlib.Core.Path.{refl, ap, ◌∙◌}
use Prim.Native.Nat.{◌-◌}
use native.Mathlib.Omega.{arith}
use lib.ListN.{length}
use Rattle.runner.proofs.Running.{certain, readable}
use Rattle.walker.proofs.Marking.{walk-starts, leads_later, walked_on, walk_ends, marked-length}
use Rattle.walker.proofs.Range.{markable}
use Rattle.walks.proofs.mark_reached.Goals as goal

pub loop-at-init : goal.loop-at-init
loop-at-init c = (walk-starts _ _ _ c.requires.runnable _ _, refl)

pub mark_condition-requires : goal.mark_condition-requires
mark_condition-requires c =
    let l = c.loop-at in
    let p = c.requires in
    let s = certain _ _ _ p.runnable l.at (l.invariant.0.inside (omega arith)) in
    rw (c.plan_row-row.ensures, l.invariant.1) (markable _ p.runnable.tables p.in_bounds _ _ _ s.shape)

pub truth_of-found-requires : goal.truth_of-found-requires
truth_of-found-requires c =
    rw c.plan_row-row.ensures (readable _ _ _ c.requires.runnable c.loop-at.at (c.loop-at.invariant.0.inside (omega arith)))

pub loop-at-smaller : goal.loop-at-smaller
loop-at-smaller c =
    let l = c.loop-at in
    omega (arith, leads_later _ _ _ c.requires.runnable _ _ l.invariant.0 (omega arith) c.plan_row-row.ensures c.truth_of-found.ensures c.next_row-at.ensures)

pub loop-at-preserved : goal.loop-at-preserved
loop-at-preserved c =
    let l = c.loop-at in
    let m = c.mark_condition.ensures in (
      walked_on _ _ _ c.requires.runnable _ _ l.invariant.0 (omega arith) c.plan_row-row.ensures c.truth_of-found.ensures c.next_row-at.ensures m,
      ap length m ∙ marked-length _ _
          ∙ l.invariant.1,
    )

pub returns : goal.returns
returns c =
    walk_ends _ _ _ c.requires.runnable _ _ c.loop-at.at c.loop-at.invariant.0 (omega arith)
