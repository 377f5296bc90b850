-- Rests on the invariant that `fine` is `all` of the bytes that were passed.
use mathlib.Core.Path.{refl, sym}
use lib.ListN.{take}
use Rattle.content.specs.Content.{all}
use Rattle.content.specs.Letters.{in_alphabet}
use Rattle.content.proofs.Bytes.{all_one_more}
use Rattle.alphabets.proofs.block_in_alphabet.Goals as goal

pub loop-b-init : goal.loop-b-init
unfolding all
loop-b-init c = refl

pub loop-b-preserved : goal.loop-b-preserved
loop-b-preserved c =
    let l = c.loop-b in
    let a = c.args in
    rw l.invariant (sym (all_one_more (in_alphabet a.word) (take 16 a.bytes.now) l.b-index c.loop-b-test.true (sym c.in_alphabet-fine.ensures)))
