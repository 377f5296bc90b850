-- `all_two_digits` meets its contract. The loop's invariant: `fine` says whether the bytes that were passed hold two digits each. Assumes nothing.
use mathlib.Core.Path.{refl, sym}
use Rattle.content.specs.Content.{all}
use Rattle.content.specs.Packed.{two_digits}
use Rattle.content.proofs.Bytes.{all_one_more}
use Rattle.packed.proofs.halves.all_two_digits.Goals as goal

pub loop-b-init : goal.loop-b-init
unfolding all
loop-b-init c = refl

pub loop-b-preserved : goal.loop-b-preserved
loop-b-preserved c =
    let l = c.loop-b in
    rw l.invariant (sym (all_one_more two_digits c.args.bytes.now l.b-index c.loop-b-test.true (sym c.two_digits-fine.ensures)))
