use Prim.Native.Nat.{◌-◌}
use lib.ListN.{length}
use native.Mathlib.Omega.{arith}
use Rattle.std.proofs.lemmas.Grind.{common_steps}
use Rattle.literal_bytes.proofs.Copying.{first-length, first-room, no_point, rest_room, number-copied}
use Rattle.literal_bytes.proofs.copies.copy_number.Goals as goal

-- src/copies.rt:29:16
pub slice_bounds-copy_bytes-end : goal.slice_bounds-copy_bytes-end
slice_bounds-copy_bytes-end c =
    first-length c.args.word.now c.args.to.now c.point_place-point.result c.point_place-point.ensures c.requires

-- src/copies.rt:29:5
pub copy_bytes-requires : goal.copy_bytes-requires
copy_bytes-requires c =
    first-room c.args.word.now c.args.to.now c.point_place-point.result c.point_place-point.ensures c.requires

pub copy_bytes-requires-then-point-word : goal.copy_bytes-requires-then-point-word
copy_bytes-requires-then-point-word c = grind (arith, common_steps, rest_room)

pub returns-then-point-word : goal.returns-then-point-word
returns-then-point-word c = grind (arith, common_steps, number-copied)

pub returns-else-point-word : goal.returns-else-point-word
returns-else-point-word c = grind (arith, common_steps, no_point)
