-- Room first; then both outputs are as the definition has them.
-- how many rows are contested
use mathlib.Core.Path.{◌≡◌, sym, ap, ◌∙◌}
use Prim.Native.Nat.{◌≤◌}
use lib.ListN.{length}
use lib.Seq.{length-take-le}
use native.Mathlib.Omega.{arith}
use Rattle.std.proofs.lemmas.Grind.{common_steps}
use Rattle.merging.specs.Merge.{Copies, copies_of, contested}
use Rattle.merger.proofs.Desk.{contested_count_lem, bytes_fit, rows_fit, ready_for}
use Rattle.merger.proofs.calls.merge_decided.Goals as goal

pub slice_bounds-write_merged-end : goal.slice_bounds-write_merged-end
slice_bounds-write_merged-end c =
    let copies : (Copies) = (copies_of c.args.items.now c.args.old.now c.args.first.now c.args.second.now) in
    let counted : (c.contested_count-rows.result ≡ length (contested copies c.args.verdict)) = (let a = c.args in
    c.contested_count-rows.ensures ∙ contested_count_lem copies a.verdict a.apart c.requires.2) in
    let fits : ((length c.args.old.now ≤ length c.args.merged.now)
    × (length (contested copies c.args.verdict) ≤ length c.args.contested.now)) = (let a = c.args in
    let k = counted in
    let room = c.check_rooms-room.ensures in (
      bytes_fit copies a.verdict _ k a.merged.now a.contested.now room c.in_default.is,
      rows_fit copies a.verdict _ k a.merged.now a.contested.now room c.in_default.is,
    )) in
    fits.0

pub slice_bounds-write_merged-end-2 : goal.slice_bounds-write_merged-end-2
slice_bounds-write_merged-end-2 c =
    let copies : (Copies) = (copies_of c.args.items.now c.args.old.now c.args.first.now c.args.second.now) in
    let counted : (c.contested_count-rows.result ≡ length (contested copies c.args.verdict)) = (let a = c.args in
    c.contested_count-rows.ensures ∙ contested_count_lem copies a.verdict a.apart c.requires.2) in
    let fits : ((length c.args.old.now ≤ length c.args.merged.now)
    × (length (contested copies c.args.verdict) ≤ length c.args.contested.now)) = (let a = c.args in
    let k = counted in
    let room = c.check_rooms-room.ensures in (
      bytes_fit copies a.verdict _ k a.merged.now a.contested.now room c.in_default.is,
      rows_fit copies a.verdict _ k a.merged.now a.contested.now room c.in_default.is,
    )) in
    let a = c.args in
    sym (length-take-le (length a.old.now) a.merged.now fits.0)

pub write_merged-requires : goal.write_merged-requires
write_merged-requires c =
    let copies : (Copies) = (copies_of c.args.items.now c.args.old.now c.args.first.now c.args.second.now) in
    let counted : (c.contested_count-rows.result ≡ length (contested copies c.args.verdict)) = (let a = c.args in
    c.contested_count-rows.ensures ∙ contested_count_lem copies a.verdict a.apart c.requires.2) in
    let fits : ((length c.args.old.now ≤ length c.args.merged.now)
    × (length (contested copies c.args.verdict) ≤ length c.args.contested.now)) = (let a = c.args in
    let k = counted in
    let room = c.check_rooms-room.ensures in (
      bytes_fit copies a.verdict _ k a.merged.now a.contested.now room c.in_default.is,
      rows_fit copies a.verdict _ k a.merged.now a.contested.now room c.in_default.is,
    )) in
    ready_for copies c.requires.0 (length-take-le (length c.args.old.now) c.args.merged.now fits.0)

pub write_contested-requires : goal.write_contested-requires
write_contested-requires c = grind (arith, common_steps, length, contested_count_lem, bytes_fit, rows_fit)
