-- `put` meets its contract.
use Prim.Native.Nat.{◌-◌}
use native.Mathlib.Omega.{arith}
use Rattle.naming.specs.Named.{known_at}
use Rattle.printouts.proofs.Refusing.{prints, some-tokens, all_printable, no_room, all_room}
use Rattle.printouts.proofs.printing.put.Goals as goal

pub line_size-size-requires : goal.line_size-size-requires
line_size-size-requires c = (
  (some-tokens c.requires.sized
      c.requires.all_there).0,
  all_printable c.requires.sized
      c.requires.all_there,
)

pub returns-then-text-size : goal.returns-then-text-size
returns-then-text-size c = no_room (prints (known_at c.args.description.now
    c.args.items c.args.places.now) c.args.literals.now c.args.bytes.now c.args.tokens.now c.requires.sized.table_sound
    c.requires.sized.rows_sound
    c.requires.sized.count_sound c.requires.all_there
    c.requires.all_named) c.line_size-size.ensures c.if-text-size.true

pub put_line-requires : goal.put_line-requires
put_line-requires c = record {
  in_bounds = (
    (some-tokens c.requires.sized
        c.requires.all_there).0,
    all_printable
        c.requires.sized
        c.requires.all_there,
  );
  tokens_in_bounds = omega (arith, c.line_size-size.ensures, c.if-text-size.false);
}

pub returns : goal.returns
returns c = all_room (prints (known_at c.args.description.now
    c.args.items c.args.places.now) c.args.literals.now c.args.bytes.now c.args.tokens.now
    c.requires.sized.table_sound
    c.requires.sized.rows_sound
    c.requires.sized.count_sound
    c.requires.all_there
    c.requires.all_named)
    c.line_size-size.ensures c.if-text-size.false c.put_line.ensures
