-- Rests on the invariant that `fine` and `n` say of the first i bytes what they shall say of all; after them there are eights, each told by its word.
use mathlib.Core.Path.{sym, ap₂, ◌∙◌}
use mathlib.Core.Bool.{Bool, ◌&&◌}
use Prim.Native.Nat.{ℕ, ◌+◌, ◌*◌, ◌-◌, ◌≤◌}
use native.Mathlib.Omega.{arith}
use lib.ListN.{length, take}
use lib.Seq.{take_all}
use Rattle.content.specs.Content.{all, is_digit}
use Rattle.content.proofs.Bytes.{all_block_more}
use Rattle.content.proofs.WrongByte.{valid_digits}
use Rattle.byte_words.proofs.WordLaws.{bytes_of}
use Rattle.numbers.proofs.NumberLaws.{head_valid, head_number, number_eight_more, eight_valid, eight_number, eight_room}
use Rattle.numbers.proofs.reading.read_digits.Goals as goal

pub loop-i-init : goal.loop-i-init
loop-i-init c =
    let bytes = c.args.bytes.now in
    let b = bytes_of bytes (λ k. (c.shared_slice_known-1.given k).fits) in
    let w = c.short_word-first.ensures in
    (omega arith, omega arith, head_valid b w c.all_digits-fine.ensures, head_number b w c.digits_value-n.ensures)

pub overflow_mul-n : goal.overflow_mul-n
overflow_mul-n c =
    let l = c.loop-i in
    let bytes = c.args.bytes.now in
    let h : l.i + 8 ≤ length bytes = omega arith in
    omega (arith, l.invariant.3, number_eight_more bytes l.i h, eight_room bytes l.i h (omega arith))

pub overflow_add-n : goal.overflow_add-n
overflow_add-n c =
    let l = c.loop-i in
    let bytes = c.args.bytes.now in
    let h : l.i + 8 ≤ length bytes = omega arith in
    let b = bytes_of bytes (λ k. (c.shared_slice_known-1.given k).fits) in
    let v = eight_number bytes l.i h b c.field_word-word.ensures c.digits_value.ensures in
    omega (arith, l.invariant.3, v, number_eight_more bytes l.i h, eight_room bytes l.i h (omega arith))

pub loop-i-preserved : goal.loop-i-preserved
loop-i-preserved c =
    let l = c.loop-i in
    let bytes = c.args.bytes.now in
    let h : l.i + 8 ≤ length bytes = omega arith in
    let b = bytes_of bytes (λ k. (c.shared_slice_known-1.given k).fits) in
    let w = c.field_word-word.ensures in (
      omega arith,
      omega arith,
      ap₂ (λ (s t : Bool). s && t) l.invariant.2 (eight_valid bytes l.i h b w c.all_digits-fine-in-loop-i.ensures) ∙ sym (all_block_more is_digit bytes l.i 8),
      ap₂ (λ (m n : ℕ). m * 100000000 + n) l.invariant.3 (eight_number bytes l.i h b w c.digits_value.ensures) ∙ sym (number_eight_more bytes l.i h),
    )

pub returns : goal.returns
returns c =
    let l = c.loop-i in
    let bytes = c.args.bytes.now in
    rw (valid_digits 0 bytes, l.invariant.2, l.invariant.3, take_all l.i bytes c.loop-i-test.false)
