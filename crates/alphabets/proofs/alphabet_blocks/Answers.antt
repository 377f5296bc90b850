-- Rests on the invariant that the first i bytes pass, and on what `block_in_alphabet` ensures of the next 16.
use mathlib.Core.Path.{refl, sym, ap, ap₂, ◌∙◌}
use mathlib.Core.Bool.{◌&&◌}
use Prim.Native.Nat.{◌-◌}
use native.Mathlib.Omega.{arith}
use lib.ListN.{length, take, drop}
use lib.Seq.{take-take}
use Rattle.content.specs.Content.{all}
use Rattle.content.specs.Letters.{in_alphabet}
use Rattle.content.proofs.Bytes.{all_block_more}
use Rattle.alphabets.proofs.alphabet_blocks.Goals as goal

pub loop-i-init : goal.loop-i-init
unfolding all
loop-i-init c = (omega arith, refl)

pub loop-i-preserved : goal.loop-i-preserved
loop-i-preserved c =
    let l = c.loop-i in
    let a = c.args in
    let bytes = a.bytes.now in
    let part = take-take 16 (length bytes - l.i) (drop l.i bytes) (omega arith) in
    let block = ap (all (in_alphabet a.word)) (sym part) ∙ sym c.block_in_alphabet.ensures ∙ c.if-not-block_in_alphabet.false in
    (omega arith, all_block_more (in_alphabet a.word) bytes l.i 16 ∙ ap₂ ◌&&◌ l.invariant.1 block)
