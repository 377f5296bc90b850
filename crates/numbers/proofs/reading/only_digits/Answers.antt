-- Rests on the invariant that `fine` says of the first i bytes what it shall say of all; after them there are eights.
use mathlib.Core.Path.{sym, ap, ap₂, ◌∙◌}
use mathlib.Core.Bool.{Bool, ◌&&◌}
use Prim.Native.Nat.{◌+◌, ◌-◌, ◌≤◌}
use native.Mathlib.Omega.{arith}
use lib.ListN.{length}
use Rattle.content.specs.Content.{all, is_digit}
use Rattle.content.proofs.Bytes.{all_block_more}
use Rattle.byte_words.proofs.WordLaws.{bytes_of}
use Rattle.numbers.proofs.NumberLaws.{head_valid, eight_valid}
use Rattle.numbers.proofs.reading.only_digits.Goals as goal

pub loop-i-init : goal.loop-i-init
loop-i-init c =
    let bytes = c.args.bytes.now in
    let b = bytes_of bytes (λ k. (c.shared_slice_known-1.given k).fits) in
    (omega arith, omega arith, head_valid b c.short_word.ensures c.all_digits-fine.ensures)

pub loop-i-preserved : goal.loop-i-preserved
loop-i-preserved c =
    let l = c.loop-i in
    let known = c.shared_slice_known-1 in
    let bytes = c.args.bytes.now in
    let h : l.i + 8 ≤ length bytes = omega arith in
    let valid = eight_valid bytes l.i h (bytes_of bytes (λ k. (known.given k).fits)) c.field_word.ensures c.all_digits-fine-in-loop-i.ensures in
    (omega arith, omega arith, ap₂ (λ (s t : Bool). s && t) l.invariant.2 valid ∙ sym (all_block_more is_digit bytes l.i 8))
