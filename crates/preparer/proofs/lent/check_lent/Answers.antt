-- 1 to 4, and then 18, as they are tried.
use mathlib.Core.Path.{sym}
use Rattle.tables.specs.Operands.{lend_names}
use Rattle.names.proofs.Lines.{tables_refused, names_tried}
use Rattle.preparer.proofs.lent.check_lent.Goals as goal

pub returns-in-Err : goal.returns-in-Err
returns-in-Err c =
    let a = c.args in
    sym (tables_refused (lend_names a.items.now a.literals.now a.bytes.now a.names.now) c.check_tables.ensures c.in-Err.is)

pub returns : goal.returns
returns c =
    let a = c.args in
    names_tried (lend_names a.items.now a.literals.now a.bytes.now a.names.now) c.check_tables.ensures
    c.in_default.is c.check_names.ensures
