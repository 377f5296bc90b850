use Prim.Native.Nat.{◌-◌}
use native.Mathlib.Omega.{arith}
use mathlib.Core.Path.{refl, sym, ap, ap₂, ◌∙◌}
use mathlib.Core.Bool.{◌&&◌, ◌||◌}
use Rattle.tables.specs.Rows.{row_at, is_group}
use Rattle.items.specs.Items.{each_below, apart, clear_of}
use Rattle.items.proofs.Facts.{each_more}
use Rattle.overlaps.proofs.is_clear.Goals as goal

pub loop-u-init : goal.loop-u-init
unfolding each_below
loop-u-init c = (omega arith, refl)

pub loop-u-preserved : goal.loop-u-preserved
loop-u-preserved c =
    let a = c.args in
    let at-row-at = c.row_at-row in
    let at-loop = c.loop-u in
    let at-row-at2 = c.row_at-other in (
      omega arith,
      ap₂ ◌&&◌ at-loop.invariant.1
          (ap₂ ◌||◌ (c.is_group-in-loop-u.ensures ∙ ap is_group at-row-at2.ensures) (c.share_none.ensures ∙ ap₂ apart at-row-at2.ensures at-row-at.ensures))
          ∙ sym (each_more (clear_of a.items.now a.v) at-loop.u),
    )
