-- `put_spaced` meets its contract. The loop's invariant: the first words are written.
use Prim.Native.Nat.{◌-◌}
use native.Mathlib.Omega.{arith}
use lib.ListN.{length}
use Rattle.printer.proofs.Lining.{lined_length, lined_all, next-room, two_length, word_room, lined_more}
use Rattle.printer.proofs.lines.put_spaced.Goals as goal

pub bounds-out-n : goal.bounds-out-n
bounds-out-n c = omega (
  arith,
  next-room c.loop-token.invariant c.requires.tokens_in_bounds
      c.loop-token-test.true,
  lined_length c.loop-token.invariant c.requires.tokens_in_bounds,
)

pub slice_bounds-put_token-count : goal.slice_bounds-put_token-count
slice_bounds-put_token-count c = omega (
  arith,
  next-room c.loop-token.invariant c.requires.tokens_in_bounds
      c.loop-token-test.true,
  two_length c.loop-token.invariant c.requires.tokens_in_bounds
      c.loop-token-test.true,
)

pub slice_bounds-put_token-start : goal.slice_bounds-put_token-start
slice_bounds-put_token-start c = omega (
  arith,
  next-room c.loop-token.invariant c.requires.tokens_in_bounds
      c.loop-token-test.true,
  two_length c.loop-token.invariant c.requires.tokens_in_bounds
      c.loop-token-test.true,
)

pub put_token-requires : goal.put_token-requires
put_token-requires c = record {
  printable = c.requires.all_printable.each c.loop-token.token-index
      c.loop-token-test.true;
  token_in_bounds = word_room c.loop-token.invariant
      c.requires.tokens_in_bounds c.loop-token-test.true;
}

pub loop-token-preserved : goal.loop-token-preserved
loop-token-preserved c = lined_more c.loop-token.invariant
    c.requires.tokens_in_bounds
    c.loop-token-test.true c.put_token.ensures c.token_size-n.ensures

pub returns : goal.returns
returns c = lined_all c.loop-token.invariant c.requires.tokens_in_bounds c.loop-token-test.false
