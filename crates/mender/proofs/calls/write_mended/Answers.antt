use borrow.Rule.Slice.PartMut.{same_len_mid}
use Prim.Native.Nat.{ℕ, ◌-◌, ◌+◌, ◌≤◌}
use native.Mathlib.Omega.{arith}
use mathlib.Core.Path.{refl, sym, ap, ◌∙◌}
use mathlib.Core.List.{List, [], ◌++◌}
use lib.ListN.{length, drop, take, length-drop}
use Rattle.std.proofs.lemmas.Grind.{common_steps}
use Rattle.tables.specs.Rows.{row_at}
use Rattle.items.specs.Items.{part_at}
use Rattle.mending.specs.Mend.{changes_from, mended_at, mended_record}
use Rattle.mender.proofs.Nearing.{fits_from}
use Rattle.mending.proofs.Theorems.{facts}
use Rattle.mender.proofs.Walking.{half, seen}
use Rattle.mender.proofs.Stepping.{walk_start, walk_past, less_left, count-step, count_past, seen_past, half_past, all_seen, all_half, row_changes_lem, row_mended, row_lying, room-step, lent_is, list-step}
use Rattle.mender.proofs.calls.write_mended.Goals as goal

pub next_row-v-requires : goal.next_row-v-requires
next_row-v-requires c = λ v h. (facts c.args.items.now c.args.«record».now c.requires.0 v h).near

pub loop-v-init : goal.loop-v-init
unfolding changes_from
loop-v-init c =
    let a = c.args in
    let p = c.requires in
    (walk_start a.items.now a.«record».now p.0 _ c.next_row-v.ensures, refl, refl, refl, refl)

pub mend_row-count-requires : goal.mend_row-count-requires
mend_row-count-requires c =
    let a = c.args in
    let items = a.items.now in
    let content = a.«record».now in
    let list = a.list.now in
    let p = c.requires in
    let at-loop = c.loop-v in
    let at-loop-test = c.loop-v-test in
    let at-row-at = c.row_at-row in (
      row_lying items content p.0 at-loop.invariant.0 at-loop-test.true at-row-at.ensures at-loop.invariant.3,
      fits_from (ap length (row_changes_lem items content p.0 at-loop.invariant.0 at-loop-test.true at-row-at.ensures at-loop.invariant.3))
          (omega (
            arith,
            ap length (lent_is list at-loop.list (seen content (mended_record items content) at-loop.at) [] [] at-loop.count 0 at-loop.invariant.1 at-loop.invariant.4
                (omega (arith, p.1, at-loop.invariant.1, room-step items content p.0 at-loop.invariant.0 at-loop-test.true))),
            length-drop at-loop.count list,
            p.1,
            at-loop.invariant.1,
            room-step items content p.0 at-loop.invariant.0 at-loop-test.true,
          )),
    )

pub next_row-v-requires-in-loop-v : goal.next_row-v-requires-in-loop-v
next_row-v-requires-in-loop-v c =
    let a = c.args in
    let p = c.requires in
    λ v h. (facts a.items.now a.«record».now p.0 v h).near

pub loop-v-smaller : goal.loop-v-smaller
loop-v-smaller c =
    less_left _ _ c.requires.0 c.loop-v.invariant.0 c.loop-v-test.true c.row_at-row.ensures c.row_end-at.ensures

pub loop-v-preserved : goal.loop-v-preserved
loop-v-preserved c =
    let listed : ((c.loop-v.count ≤ 400000) × (c.loop-v.count ≤ length c.loop-v.list)) = (let a = c.args in
    let items = a.items.now in
    let content = a.«record».now in
    let p = c.requires in
    let at-loop = c.loop-v in
    let taken = c.loop-v-test.true in
    let few = count-step items content p.0 at-loop.invariant.0 taken in
    let room = room-step items content p.0 at-loop.invariant.0 taken in
    (omega (arith, few, at-loop.invariant.1), omega (arith, room, p.1, at-loop.invariant.1, at-loop.invariant.2))) in
    let items = c.args.items.now in
    let content = c.args.«record».now in
    let list = c.args.list.now in
    let p = c.requires.0 in
    let l = c.loop-v in
    let taken = c.loop-v-test.true in
    let read = c.row_at-row.ensures in
    let end = c.row_end-at.ensures in
    let mended = c.mend_row-count in
    let before = seen content (mended_record items content) l.at in
    let here = changes_from (row_at items l.v).offset (part_at items l.v content) (mended_at items content l.v) in
    let told = row_changes_lem items content p l.invariant.0 taken read l.invariant.3 in (
      walk_past _ _ p l.invariant.0 taken read end c.next_row-v-in-loop-v.ensures,
      count_past _ _ p l.invariant.0 taken read end l.invariant.1 (mended.ensures.value ∙ ap length told),
      same_len_mid l.count (length l.list - l.count) l.list mended.new.list c.mend_row-count.auto.list ∙ l.invariant.2,
      half_past _ _ p l.invariant.0 taken read end (mended.ensures.record_after ∙ row_mended items content p l.invariant.0 taken read l.invariant.3),
      list-step list l.list before here mended.new.list l.count mended.result l.invariant.1 l.invariant.4 (omega (arith, listed, l.invariant.2))
          (mended.ensures.list_after ∙ ap (λ (x : List ℕ). x ++ drop mended.result (take (length l.list - l.count) (drop l.count l.list))) told)
          ∙ ap (λ (x : List ℕ). x ++ drop (l.count + mended.result) list) (sym (seen_past _ _ p l.invariant.0 taken read end)),
    )

pub returns : goal.returns
returns c = grind (arith, common_steps, length, drop, all_seen, all_half)
