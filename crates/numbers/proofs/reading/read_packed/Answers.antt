-- Each part is what its function ensures; nine bytes of pairs leave room for one digit more.
use mathlib.Core.Path.{ap}
use Prim.Native.Nat.{◌-◌}
use native.Mathlib.Omega.{arith}
use lib.ListN.{length}
use Rattle.content.proofs.WrongByte.{valid_packed}
use Rattle.compare.specs.declared.Number.{Number}
use Rattle.numbers.proofs.NumberLaws.{packed-room}
use Rattle.numbers.proofs.reading.read_packed.Goals as goal

pub overflow_mul-result : goal.overflow_mul-result
overflow_mul-result c =
    let bytes = c.args.bytes.now in
    omega (arith, ap (λ (r : Number). r.digits) c.read_pairs-pairs.ensures, packed-room bytes (length bytes - 1) 9 (omega arith) (omega arith))

pub overflow_add-result : goal.overflow_add-result
overflow_add-result c =
    let bytes = c.args.bytes.now in
    omega (
      arith,
      c.left_half.ensures,
      ap (λ (r : Number). r.digits) c.read_pairs-pairs.ensures,
      packed-room bytes (length bytes - 1) 9 (omega arith) (omega arith),
    )

pub returns : goal.returns
returns c =
    rw (
      c.left_half.ensures,
      c.is_minus.ensures,
      c.may_lead.ensures,
      c.digit_and_sign.ensures,
      c.read_pairs-pairs.ensures,
      c.requires.kind_value,
      valid_packed c.args.row.kind c.args.row.digits c.args.bytes.now c.requires.in_bounds.0 c.requires.kind_value,
    )
