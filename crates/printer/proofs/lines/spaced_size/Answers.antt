-- `spaced_size` meets its contract. The loop's invariant: n bytes for the first words.
use mathlib.Core.Path.{ap}
use Prim.Native.Nat.{◌-◌}
use native.Mathlib.Omega.{arith}
use lib.ListN.{length, get_or}
use Rattle.naming.specs.Named.{known_at}
use Rattle.spelling.specs.Printing.{word_of, spaced}
use Rattle.printer.proofs.Lining.{word_small, spaced_size_on, spaced_end}
use Rattle.printer.proofs.lines.spaced_size.Goals as goal

pub overflow_add-n : goal.overflow_add-n
overflow_add-n c = omega (
  arith,
  c.token_size.ensures,
  word_small c.args.description.now
      c.args.items c.args.places.now c.args.literals.now c.args.bytes.now (get_or c.args.tokens.now c.loop-token.token-index 0)
      (c.requires.each c.loop-token.token-index c.loop-token-test.true)
      c.requires.short,
)

pub overflow_add-n-in-loop-token : goal.overflow_add-n-in-loop-token
overflow_add-n-in-loop-token c = omega (
  arith,
  c.token_size.ensures,
  word_small c.args.description.now
      c.args.items c.args.places.now c.args.literals.now c.args.bytes.now (get_or c.args.tokens.now c.loop-token.token-index 0)
      (c.requires.each c.loop-token.token-index c.loop-token-test.true)
      c.requires.short,
  c.loop-token.invariant.0,
  c.requires.few,
)

pub loop-token-preserved : goal.loop-token-preserved
loop-token-preserved c = (
  omega (
    arith,
    c.token_size.ensures,
    word_small c.args.description.now
        c.args.items c.args.places.now c.args.literals.now c.args.bytes.now (get_or c.args.tokens.now c.loop-token.token-index 0)
        (c.requires.each c.loop-token.token-index c.loop-token-test.true)
        c.requires.short,
    c.loop-token.invariant.0,
  ),
  omega (
    arith,
    c.token_size.ensures,
    c.loop-token.invariant.1,
    spaced_size_on (word_of (known_at c.args.description.now
        c.args.items c.args.places.now) c.args.literals.now c.args.bytes.now) c.args.tokens.now c.loop-token.token-index c.loop-token-test.true,
  ),
)

pub returns : goal.returns
returns c = omega (
  arith,
  c.loop-token.invariant.1,
  ap length (spaced_end (word_of (known_at c.args.description.now
      c.args.items c.args.places.now) c.args.literals.now c.args.bytes.now) c.args.tokens.now c.loop-token.token-index c.loop-token-test.false),
)
