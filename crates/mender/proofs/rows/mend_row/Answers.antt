use mathlib.Core.Bool.{not}
use Prim.Native.Nat.{ℕ}
use mathlib.Core.Path.{refl, sym, ap, ◌∙◌}
use mathlib.Core.List.{List, ◌++◌}
use lib.ListN.{length}
use native.Mathlib.Omega.{arith}
use Rattle.std.proofs.lemmas.Grind.{common_steps}
use Rattle.tables.specs.Rows.{part}
use Rattle.tables.proofs.Lines.{fails}
use Rattle.items.specs.Items.{replaced}
use Rattle.items.proofs.Rewriting.{replaced_idle}
use Rattle.meters.proofs.Filling.{mended_skip}
use Rattle.mending.proofs.Changes.{changes_none}
use Rattle.mender.proofs.Nearing.{changes_of}
use Rattle.mender.proofs.rows.mend_row.Goals as goal

pub returns-then-not-is_zoned : goal.returns-then-not-is_zoned
returns-then-not-is_zoned c = grind (arith, common_steps, length, fails, replaced_idle, mended_skip, changes_none, changes_of)
