-- The invariant: while all lie in turn, none of the rows passed overlaps an earlier one.
use mathlib.Core.Path.{refl, ap}
use mathlib.Core.Bool.{true, not}
use Prim.Native.Nat.{◌-◌}
use native.Mathlib.Omega.{arith}
use Rattle.std.proofs.lemmas.Grind.{common_steps}
use Rattle.items.proofs.Turns.{turn-all, group_in_turn, row_in-turn}
use Rattle.overlaps.proofs.lie_in_turn.Goals as goal
use Rattle.overlaps.proofs.lie_in_turn.Goals.{else-not-is_group, then-not-is_group}

pub loop-v-preserved : goal.loop-v-preserved
loop-v-preserved c =
    let l = c.loop-v in
    let r = c.row_at-row.ensures in
    let g = c.is_group.ensures in
    elim c.if-not-is_group.branch [
      | then-not-is_group w ↦ (
        omega arith,
        λ e. row_in-turn l.invariant.1 r g (ap not w.if-not-is_group.true) refl refl refl w.in_turn-is w.end-is e,
      )
      | else-not-is_group w ↦ (omega arith, λ e. group_in_turn l.invariant.1 r g (ap not w.if-not-is_group.false) w.in_turn-is w.end-is e)
    ]

pub returns : goal.returns
returns c = λ e. turn-all (c.loop-v.invariant.1 e) (omega arith)
