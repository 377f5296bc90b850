use Prim.Native.Nat.{ℕ, ◌+◌, ◌-◌}
use native.Mathlib.Omega.{arith}
use mathlib.Core.Path.{refl, sym, ap, ◌∙◌}
use lib.ListN.{length}
use Rattle.mending.specs.Mend.{changes_from}
use Rattle.mending.proofs.Changes.{byte_same, three_more}
use Rattle.change_lists.proofs.counting.count_changes.Goals as goal
use Rattle.change_lists.proofs.counting.count_changes.Goals.{else-was-new, then-was-new}

pub loop-i-init : goal.loop-i-init
unfolding changes_from
loop-i-init c = (omega arith, omega arith, refl)

pub loop-i-preserved : goal.loop-i-preserved
loop-i-preserved c =
    let a = c.args in
    let old = a.old.now in
    let new = a.new.now in
    let p = c.requires in
    let l = c.loop-i in
    elim c.if-was-new.branch [
      | then-was-new w ↦ (
        omega arith,
        omega (arith, w.count-is),
        w.count-is ∙ ap (λ (n : ℕ). n + 3) l.invariant.2 ∙ sym (three_more a.at old new p.0 l.i (omega arith) w.if-was-new.true),
      )
      | else-was-new w ↦ (omega arith, omega (arith, w.count-is), w.count-is ∙ l.invariant.2 ∙ sym (ap length (byte_same a.at old new p.0 l.i (omega arith) w.if-was-new.false)))
    ]
