use mathlib.Core.Path.{ap₂}
use Prim.Native.Nat.{ℕ, ◌+◌, ◌-◌, ◌≤◌}
use native.Mathlib.Omega.{arith}
use mathlib.Core.Path.{◌≡◌, refl, sym, ap, ◌∙◌}
use mathlib.Core.List.{List, [], ◌∷◌, ◌++◌}
use lib.ListN.{length, get_or, take, drop}
use lib.Seq.{sets, length-sets}
use Rattle.std.proofs.lemmas.Grind.{common_steps}
use Rattle.mending.specs.Mend.{changes_from}
use Rattle.mending.proofs.Changes.{byte_same, byte_changed, three_more, three_put, changes-within}
use Rattle.change_lists.proofs.listing.list_changes.Goals as goal
use Rattle.change_lists.proofs.listing.list_changes.Goals.{else-was-new, then-was-new}

pub loop-i-init : goal.loop-i-init
unfolding changes_from
loop-i-init c = (omega arith, refl, refl, refl)

pub put_change-requires : goal.put_change-requires
put_change-requires c =
    let a = c.args in
    let old = a.old.now in
    let new = a.new.now in
    let p = c.requires in
    let at-loop = c.loop-i in
    omega (
      arith,
      p.3,
      at-loop.invariant,
      three_more a.at old new p.0 at-loop.i (omega arith) c.if-was-new.true,
      changes-within a.at old new (at-loop.i + 1) p.0 (omega arith),
    )

pub loop-i-preserved : goal.loop-i-preserved
loop-i-preserved c =
    let a = c.args in
    let old = a.old.now in
    let new = a.new.now in
    let list = a.list.now in
    let p = c.requires in
    let at-loop = c.loop-i in
    let e1 = (a.at + at-loop.i) ∷ (get_or old at-loop.i 0) ∷ (get_or new at-loop.i 0) ∷ [] in
    let written : List ℕ = changes_from a.at (take at-loop.i old) (take at-loop.i new) in elim c.if-was-new.branch [
      | then-was-new w ↦ let long : length written + 3 ≤ length list = omega (
        arith,
        p.3,
        at-loop.invariant,
        three_more a.at old new p.0 at-loop.i (omega arith) w.if-was-new.true,
        changes-within a.at old new (at-loop.i + 1) p.0 (omega arith),
      ) in let grown = three_more a.at old new p.0 at-loop.i (omega arith)
          w.if-was-new.true in let counted : c.if-was-new.count ≡ length written + 3 = w.count-is
          ∙ ap (λ (n : ℕ). n + 3) at-loop.invariant.1 in (
            omega arith,
            counted ∙ sym grown,
            ap length (w.list-is ∙ w.put_change.ensures) ∙ length-sets at-loop.list at-loop.count ((a.at + at-loop.i) ∷ w.from.result ∷ w.from-then-was-new.result ∷ [])
                ∙ at-loop.invariant.2,
            w.list-is ∙ w.put_change.ensures ∙ ap₂ (λ (x y : ℕ). sets at-loop.list at-loop.count ((a.at + at-loop.i) ∷ x ∷ y ∷ [])) w.from.ensures w.from-then-was-new.ensures
                ∙ ap (λ (l : List ℕ). sets l at-loop.count e1) at-loop.invariant.3 ∙ ap (λ (n : ℕ). sets (written ++ drop n list) n e1) at-loop.invariant.1
                ∙ three_put list written (a.at + at-loop.i) (get_or old at-loop.i 0) (get_or new at-loop.i 0) long
                ∙ ap₂ (λ (l : List ℕ) (n : ℕ). l ++ drop n list) (sym (byte_changed a.at old new p.0 at-loop.i (omega arith) w.if-was-new.true)) (sym counted),
          )
      | else-was-new w ↦ let still = sym (byte_same a.at old new p.0 at-loop.i (omega arith) w.if-was-new.false) in (
        omega arith,
        w.count-is ∙ at-loop.invariant.1 ∙ ap length still,
        ap length w.list-is ∙ at-loop.invariant.2,
        w.list-is ∙ at-loop.invariant.3
            ∙ ap₂ (λ (l : List ℕ) (n : ℕ). l ++ drop n list) still (sym w.count-is),
      )
    ]
