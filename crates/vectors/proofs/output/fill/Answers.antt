-- One number more, and all.
use Rattle.std.proofs.Common.{length, arith}
use Rattle.vectors.proofs.Summing.{fill_next, fill_last}
use Rattle.vectors.proofs.output.fill.Goals as goal

pub loop-number-preserved : goal.loop-number-preserved
loop-number-preserved c =
    let l = c.loop-number in
    fill_next l.output (length c.args.output.now) l.next l.number-index c.wrapping_add_u32-next.result (omega arith) (omega arith)
    c.wrapping_add_u32-next.ensures.value l.invariant

pub returns : goal.returns
returns c =
    let l = c.loop-number in
    fill_last l.output (length c.args.output.now) l.next l.number-index (omega arith) (omega arith) l.invariant
