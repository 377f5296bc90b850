-- Rests on what `first_wrong` returns, which stands inside the field, and on the kind, which picks the stop.
use native.Mathlib.Omega.{arith}
use Rattle.content.proofs.WrongByte.{wrong_within}
use Rattle.values.proofs.sides.stop_at.Goals as goal

pub overflow_add-byte : goal.overflow_add-byte
overflow_add-byte c =
    let inside = wrong_within c.args.row.kind c.args.row.digits c.args.bytes.now c.first_wrong.ensures in
    record { fits = omega (arith, inside, c.requires.0.offset, c.requires.0.most) }
