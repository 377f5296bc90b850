-- One word more, or no bytes for it.
use Rattle.std.proofs.Common.{arith}
use Rattle.vectors.proofs.Decoding.{one_more, no_word}
use Rattle.vectors.proofs.input.decode.Goals as goal

pub returns-then-raw-at-lt4 : goal.returns-then-raw-at-lt4
returns-then-raw-at-lt4 c = no_word c.loop-count.invariant c.if-raw-at-lt4.true

pub loop-count-preserved : goal.loop-count-preserved
loop-count-preserved c =
    one_more c.loop-count.invariant c.word.result (omega (arith, c.loop-count.invariant.sized)) c.if-raw-at-lt4.false c.word.ensures
