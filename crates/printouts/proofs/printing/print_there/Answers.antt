-- `print_there` meets its contract.
use mathlib.Core.Path.{ap, ◌∙◌}
use Prim.Native.Nat.{◌-◌}
use native.Mathlib.Omega.{arith}
use Rattle.naming.specs.Named.{known_at}
use Rattle.books.specs.Calls.{unprinted_as}
use Rattle.printouts.proofs.Refusing.{token_refuses, name_refuses, names_there, missing_same, refused_print}
use Rattle.printouts.proofs.printing.print_there.Goals as goal

pub returns-then-missing-tokens : goal.returns-then-missing-tokens
returns-then-missing-tokens c = refused_print (token_refuses (known_at c.args.description.now
    c.args.items c.args.places.now) c.args.literals.now c.args.bytes.now c.args.tokens.now c.requires.table_sound
    c.requires.rows_sound c.requires.count_sound
    (omega (
      arith,
      (c.first_missing-missing.ensures ∙ missing_same c.args.description.now
          c.args.items c.args.places.now c.args.literals.now c.args.tokens.now
          c.requires.listed.within),
      c.if-missing-tokens.true,
    ))) (ap (λ n. unprinted_as 6 n)
    (c.first_missing-missing.ensures ∙ missing_same c.args.description.now
    c.args.items c.args.places.now c.args.literals.now c.args.tokens.now
    c.requires.listed.within))

pub first_unnamed-unnamed-requires : goal.first_unnamed-unnamed-requires
first_unnamed-unnamed-requires c = (
  c.requires.listed,
  names_there
      c.requires (omega (
        arith,
        (c.first_missing-missing.ensures ∙ missing_same c.args.description.now c.args.items c.args.places.now c.args.literals.now
            c.args.tokens.now
            c.requires.listed.within),
        c.if-missing-tokens.false,
      )),
)

pub returns-then-unnamed-tokens : goal.returns-then-unnamed-tokens
returns-then-unnamed-tokens c = refused_print (name_refuses (known_at c.args.description.now
    c.args.items c.args.places.now) c.args.literals.now c.args.bytes.now c.args.tokens.now
    c.requires.table_sound
    c.requires.rows_sound
    c.requires.count_sound (omega (
      arith,
      (c.first_missing-missing.ensures ∙ missing_same c.args.description.now
          c.args.items c.args.places.now c.args.literals.now c.args.tokens.now
          c.requires.listed.within),
      c.if-missing-tokens.false,
    )) (omega
    (arith, c.first_unnamed-unnamed.ensures, c.if-unnamed-tokens.true))) (ap (λ n. unprinted_as 16 n) c.first_unnamed-unnamed.ensures)
