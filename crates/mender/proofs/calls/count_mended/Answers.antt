use Prim.Native.Nat.{◌-◌}
use native.Mathlib.Omega.{arith}
use mathlib.Core.Path.{refl, ap, ◌∙◌}
use lib.ListN.{length}
use Rattle.content.specs.declared.Row.{Row}
use Rattle.mending.specs.Mend.{changes_from}
use Rattle.mender.specs.Walks.{row_changes}
use Rattle.mending.proofs.Theorems.{facts}
use Rattle.mender.proofs.Walking.{seen}
use Rattle.mender.proofs.Stepping.{walk_start, walk_past, less_left, lying, count-step, count_past, all_seen}
use Rattle.mender.proofs.calls.count_mended.Goals as goal

pub next_row-v-requires : goal.next_row-v-requires
next_row-v-requires c = λ v h. (facts c.args.items.now c.args.«record».now c.requires v h).near

pub loop-v-init : goal.loop-v-init
unfolding changes_from
loop-v-init c = (walk_start c.args.items.now c.args.«record».now c.requires _ c.next_row-v.ensures, refl)

pub count_row-count-requires : goal.count_row-count-requires
count_row-count-requires c =
    let a = c.args in
    let content = a.«record».now in
    let p = c.requires in
    let e = c.row_at-row.ensures in rw e (lying a.items.now content (p) c.loop-v.invariant.0 c.loop-v-test.true content refl)

pub overflow_add-count : goal.overflow_add-count
overflow_add-count c =
    let a = c.args in
    let content = a.«record».now in
    let p = c.requires in
    let l = c.loop-v in
    omega (
      arith,
      l.invariant.1,
      c.count_row-count.ensures ∙ ap (λ (r : Row). length (row_changes r content)) c.row_at-row.ensures,
      count-step a.items.now content (p) l.invariant.0 c.loop-v-test.true,
    )

pub next_row-v-requires-in-loop-v : goal.next_row-v-requires-in-loop-v
next_row-v-requires-in-loop-v c =
    let a = c.args in
    let p = c.requires in
    λ v h. (facts a.items.now a.«record».now (p) v h).near

pub loop-v-smaller : goal.loop-v-smaller
loop-v-smaller c =
    less_left _ _ c.requires c.loop-v.invariant.0 c.loop-v-test.true c.row_at-row.ensures c.row_end-at.ensures

pub loop-v-preserved : goal.loop-v-preserved
loop-v-preserved c =
    let p = c.requires in
    let w = c.loop-v.invariant.0 in
    let taken = c.loop-v-test.true in (
      walk_past _ _ p w taken c.row_at-row.ensures c.row_end-at.ensures c.next_row-v-in-loop-v.ensures,
      count_past _ _ p w taken c.row_at-row.ensures c.row_end-at.ensures c.loop-v.invariant.1
          (c.count_row-count.ensures ∙ ap (λ (r : Row). length (row_changes r c.args.«record».now)) c.row_at-row.ensures),
    )

pub returns : goal.returns
returns c =
    let a = c.args in
    let p = c.requires in
    c.loop-v.invariant.1 ∙ ap length (all_seen a.items.now a.«record».now (p) c.loop-v.invariant.0 c.loop-v-test.false)
