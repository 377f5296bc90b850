-- Rests on the laws of the loop that follows a plan's targets, and on what `plan_row` and `truth_of` ensure of the row it has come to.
use mathlib.Core.Path.{sym, ◌∙◌}
use Prim.Native.Nat.{◌-◌}
use native.Mathlib.Omega.{arith}
use Rattle.runner.proofs.Running.{certain, readable, start, goes_true, goes_false, few, stops, ends_true, ends_false}
use Rattle.runner.proofs.run_rows.Goals as goal

pub loop-target-init : goal.loop-target-init
loop-target-init c = rw c.later-target.ensures (start _ _ _ c.requires _)

pub truth_of-found-requires : goal.truth_of-found-requires
truth_of-found-requires c =
    let p = c.requires in
    rw c.plan_row-row.ensures (readable _ _ _ p c.loop-target.target.number (c.loop-target.invariant.inside (omega arith)))

pub overflow_add-count : goal.overflow_add-count
overflow_add-count c =
    omega (arith, few _ _ _ c.requires _ c.loop-target.target.number c.loop-target.count c.loop-target.invariant (omega arith))

pub loop-target-smaller-in-True : goal.loop-target-smaller-in-True
loop-target-smaller-in-True c =
    let s = certain _ _ _ c.requires c.loop-target.target.number (c.loop-target.invariant.inside (omega arith)) in
    rw c.plan_row-row.ensures (omega (arith, s.holds.after))

pub loop-target-preserved-in-True : goal.loop-target-preserved-in-True
loop-target-preserved-in-True c =
    let found = rw c.plan_row-row.ensures at c.truth_of-found.ensures in
    let p = c.requires in
    rw c.plan_row-row.ensures (goes_true _ _ _ p _ c.loop-target.target.number c.loop-target.count c.loop-target.invariant (omega arith)
    (sym found ∙ c.in-True.is))

pub loop-target-smaller : goal.loop-target-smaller
loop-target-smaller c =
    let s = certain _ _ _ c.requires c.loop-target.target.number (c.loop-target.invariant.inside (omega arith)) in
    rw c.plan_row-row.ensures (omega (arith, s.fails.after))

pub loop-target-preserved : goal.loop-target-preserved
loop-target-preserved c =
    let found = rw c.plan_row-row.ensures at c.truth_of-found.ensures in
    let p = c.requires in
    rw c.plan_row-row.ensures (goes_false _ _ _ p _ c.loop-target.target.number c.loop-target.count c.loop-target.invariant (omega arith)
    (sym found ∙ c.in-False.is))

pub returns-in-Stopped : goal.returns-in-Stopped
returns-in-Stopped c =
    let found = rw c.plan_row-row.ensures at c.truth_of-found.ensures in
    let p = c.requires in
    rw c.refusal_of.ensures
    (stops _ _ _ p _ c.loop-target.target.number c.loop-target.count c.loop-target.invariant (omega arith) (sym found ∙ c.in-Stopped.is))

pub returns-then-target-eq-TRUE : goal.returns-then-target-eq-TRUE
returns-then-target-eq-TRUE c =
    ends_true _ _ _ c.requires _ c.loop-target.target.number c.loop-target.count c.loop-target.invariant (omega arith)

pub returns : goal.returns
returns c =
    ends_false _ _ _ c.requires _ c.loop-target.target.number c.loop-target.count c.loop-target.invariant (omega (arith, c.loop-target.invariant.top))
