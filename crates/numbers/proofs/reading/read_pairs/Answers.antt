-- Rests on the invariant that `fine` and `n` say of the bytes that were passed what they shall say of all, and on the room that n leaves.
use mathlib.Core.Path.{refl, sym}
use native.Mathlib.Omega.{arith}
use Rattle.content.specs.Content.{all}
use Rattle.content.specs.Packed.{two_digits, packed_from}
use Rattle.content.proofs.Bytes.{all_one_more}
use Rattle.numbers.proofs.NumberLaws.{packed_one_more, packed-room}
use Rattle.numbers.proofs.reading.read_pairs.Goals as goal

pub loop-b-init : goal.loop-b-init
unfolding all packed_from
loop-b-init c = (refl, refl)

pub overflow_mul-n : goal.overflow_mul-n
overflow_mul-n c =
    let l = c.loop-b in
    omega (arith, l.invariant.1, packed-room c.args.bytes.now l.b-index 8 (omega arith) (omega arith))

pub overflow_add-n : goal.overflow_add-n
overflow_add-n c =
    let l = c.loop-b in
    omega (arith, c.left_half.ensures, l.invariant.1, packed-room c.args.bytes.now l.b-index 8 (omega arith) (omega arith))

pub overflow_add-n-in-loop-b : goal.overflow_add-n-in-loop-b
overflow_add-n-in-loop-b c =
    let l = c.loop-b in
    omega (arith, c.left_half.ensures, l.invariant.1, packed-room c.args.bytes.now l.b-index 8 (omega arith) (omega arith))

pub loop-b-preserved : goal.loop-b-preserved
loop-b-preserved c =
    let l = c.loop-b in
    let bytes = c.args.bytes.now in
    let within = c.loop-b-test.true in (
      rw l.invariant.0 (sym (all_one_more two_digits bytes l.b-index within (sym c.two_digits-fine.ensures))),
      rw (c.left_half.ensures, l.invariant.1) (sym (packed_one_more bytes l.b-index within)),
    )
