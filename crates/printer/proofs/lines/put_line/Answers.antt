-- `put_line` meets its contract.
use Prim.Native.Nat.{◌-◌}
use native.Mathlib.Omega.{arith}
use Rattle.naming.specs.Named.{known_at}
use Rattle.spelling.specs.Printing.{word_of, spaced}
use Rattle.printer.proofs.Lining.{others_printable, first-room, rest_room, line_put}
use Rattle.printer.proofs.lines.put_line.Goals as goal

pub put_token-requires : goal.put_token-requires
put_token-requires c = record {
  printable = c.requires.in_bounds.1.each 0 (omega
      (arith, c.requires.in_bounds.0));
  token_in_bounds = first-room (word_of (known_at c.args.description.now
      c.args.items c.args.places.now) c.args.literals.now c.args.bytes.now) c.args.tokens.now c.args.out.now c.requires.in_bounds.0
      c.requires.tokens_in_bounds;
}

pub put_spaced-requires : goal.put_spaced-requires
put_spaced-requires c = record {
  all_printable = others_printable c.args.tokens.now
      c.requires.in_bounds.1;
  tokens_in_bounds = rest_room (word_of (known_at c.args.description.now
      c.args.items c.args.places.now) c.args.literals.now c.args.bytes.now) c.args.tokens.now c.args.out.now
      c.requires.in_bounds.0
      c.requires.tokens_in_bounds
      c.token_size-n.ensures c.put_token.ensures;
}

pub returns : goal.returns
returns c = line_put (word_of (known_at c.args.description.now
    c.args.items c.args.places.now) c.args.literals.now c.args.bytes.now) c.args.tokens.now c.args.out.now
    c.requires.in_bounds.0
    c.requires.tokens_in_bounds
    c.token_size-n.ensures c.put_token.ensures
    c.put_spaced.ensures
