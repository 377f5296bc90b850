-- An empty table has no row that could be unsound; else what `check_name_rows` returns.
use mathlib.Core.Path.{◌≡◌}
use mathlib.Core.List.{List}
use Prim.Native.Nat.{ℕ}
use lib.ListN.{length}
use Rattle.tables.specs.Operands.{lend_names}
use Rattle.tables.specs.Refusals.{first_failing, first_of}
use Rattle.values.specs.Names.{name_check}
use Rattle.name_tables.proofs.check_names.Goals as goal
use Rattle.std.specs.Prelude.{Ok}

none : (items literals bytes names : List ℕ) → length names ≡ 0 → Ok tt ≡ name_check (lend_names items literals bytes names)
unfolding first_failing first_of
none items literals bytes names e = rw e

pub returns-then-names-eq0 : goal.returns-then-names-eq0
returns-then-names-eq0 c = let a = c.args in none a.items.now a.literals.now a.bytes.now a.names.now c.if-names-eq0.true
