-- `print_named` meets its contract.
use mathlib.Core.Path.{sym, ◌∙◌}
use Prim.Native.Nat.{◌-◌}
use Rattle.naming.specs.Named.{known_at}
use Rattle.printouts.proofs.Refusing.{tables_refuse, tables_sound, count_refuses, refused_print}
use Rattle.printouts.proofs.printing.print_named.Goals as goal

pub returns-in-Err : goal.returns-in-Err
returns-in-Err c = let f = tables_refuse (known_at c.args.description.now
    c.args.items c.args.places.now) c.args.literals.now c.args.bytes.now c.args.tokens.now (sym
    c.check_tables-tables.ensures ∙ c.in-Err.is) in refused_print f.0 f.1

pub returns-in-Err-count : goal.returns-in-Err-count
returns-in-Err-count c = let s = tables_sound (known_at c.args.description.now
    c.args.items c.args.places.now) c.args.literals.now c.args.bytes.now c.args.tokens.now (sym
    c.check_tables-tables.ensures ∙ c.in_default.is) in let f = count_refuses (known_at c.args.description.now
    c.args.items c.args.places.now) c.args.literals.now c.args.bytes.now c.args.tokens.now s.0 s.1 (sym
    c.check_token_count-count.ensures ∙ c.in-Err-count.is) in refused_print f.0 f.1

pub print_there-requires : goal.print_there-requires
print_there-requires c = let s = tables_sound (known_at c.args.description.now
    c.args.items c.args.places.now) c.args.literals.now c.args.bytes.now c.args.tokens.now (sym
    c.check_tables-tables.ensures ∙ c.in_default.is) in record {
      short = c.requires.0;
      listed = c.requires.1;
      table_sound = s.0;
      rows_sound = s.1;
      count_sound = sym
          c.check_token_count-count.ensures ∙ c.in_default-count.is;
    }
