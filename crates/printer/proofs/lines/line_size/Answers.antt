-- `line_size` meets its contract.
use Prim.Native.Nat.{◌-◌}
use native.Mathlib.Omega.{arith}
use lib.ListN.{length}
use Rattle.naming.specs.Named.{known_at}
use Rattle.spelling.specs.Printing.{word_of, spaced}
use Rattle.printer.proofs.Lining.{line-length}
use Rattle.printer.proofs.lines.line_size.Goals as goal

pub overflow_sub-result : goal.overflow_sub-result
overflow_sub-result c = omega (
  arith,
  c.spaced_size.ensures,
  line-length (word_of (known_at c.args.description.now
      c.args.items c.args.places.now) c.args.literals.now c.args.bytes.now) c.args.tokens.now c.requires.0,
)

pub returns : goal.returns
returns c = omega (
  arith,
  c.spaced_size.ensures,
  line-length (word_of (known_at c.args.description.now
      c.args.items c.args.places.now) c.args.literals.now c.args.bytes.now) c.args.tokens.now c.requires.0,
)
