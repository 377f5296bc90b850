use mathlib.Core.Bool.{true, false, ◌&&◌}
use Rattle.std.proofs.lemmas.Grind.{common_steps}
use Rattle.tables.specs.Rows.{part}
use Rattle.items.specs.Items.{is_elementary, listed}
use Rattle.merging.specs.Merge.{changed_apart}
use Prim.Native.Nat.{ℕ, ◌-◌, ◌+◌}
use native.Mathlib.Omega.{arith}
use mathlib.Core.Path.{◌≡◌, refl, sym, ap, ◌∙◌}
use mathlib.Core.Logic.{⊎_elim}
use lib.ListN.{length}
use Rattle.content.specs.declared.Row.{Row}
use Rattle.tables.specs.Rows.{row_at}
use Rattle.merging.specs.Merge.{copies_of, apart_at}
use Rattle.copies.proofs.Choosing.{rows_miss, count_hit}
use Rattle.contested.proofs.apart.count_apart.Goals as goal

pub loop-v-init : goal.loop-v-init
unfolding listed
loop-v-init c = (omega arith, omega arith, refl)

pub loop-v-preserved : goal.loop-v-preserved
loop-v-preserved c = grind (arith, common_steps, length, rows_miss, count_hit)
