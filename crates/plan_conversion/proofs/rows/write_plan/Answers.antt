-- The first k rows, converted, stand at the start of the output.
use mathlib.Core.Path.{◌≡◌, refl, ap, ◌∙◌}
use mathlib.Core.List.{[], ◌∷◌}
use Prim.Native.Nat.{◌+◌, ◌*◌, ◌-◌, ◌/◌, ◌≤◌}
use native.Mathlib.Omega.{arith}
use lib.ListN.{length, length-drop}
use Rattle.tables.proofs.Front.{front_none, front_rest, front_part}
use Rattle.grammar.specs.declared.PlanRow.{PlanRow}
use Rattle.grammar.specs.Plan.{flat, plan_row}
use Rattle.grammar.specs.Converted.{on_row}
use Rattle.grammar.proofs.ConvertedSound.{converted_length}
use Rattle.plan_conversion.proofs.Begun.{begun, begun_none, begun_more, begun_all}
use Rattle.plan_conversion.proofs.rows.write_plan.Goals as goal

five : (r : PlanRow) → 5 ≡ length (flat (r ∷ []))
unfolding flat
five r = refl

pub loop-k-init : goal.loop-k-init
loop-k-init c = rw (begun_none c.args.plan.now) (front_none _)

pub write_row-requires : goal.write_row-requires
write_row-requires c =
    let room : (c.loop-k.k * 5 + 5 ≤ length c.args.out.now) = (omega (arith, c.requires, converted_length c.args.plan.now)) in
    let l = c.loop-k in
    let out = c.args.out.now in
    rw (front_rest l.invariant) (omega (arith, room, length-drop (l.k * 5) out))

pub loop-k-preserved : goal.loop-k-preserved
loop-k-preserved c =
    let room : (c.loop-k.k * 5 + 5 ≤ length c.args.out.now) = (omega (arith, c.requires, converted_length c.args.plan.now)) in
    let l = c.loop-k in
    let plan = c.args.plan.now in
    let r = on_row (plan_row plan l.k) in
    let row : c.on_row-row.result ≡ r = c.on_row-row.ensures ∙ ap on_row c.plan_row.ensures in
    let z : (l.k + 1) * 5 ≡ l.k * 5 + 5 = omega arith in
    let w = c.write_row in
    let more = front_part l.invariant (flat (r ∷ [])) w.new.out 5 (five r) room (rw row at w.ensures) in
    rw (begun_more plan l.k, z) more

pub returns : goal.returns
returns c =
    let l = c.loop-k in
    let plan = c.args.plan.now in
    let z : l.k ≡ length plan / 5 = omega arith in
    let h = rw (z, begun_all plan) at l.invariant.holds in
    let s = converted_length plan in
    rw s h
