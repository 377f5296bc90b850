-- Two numbers for each row that differs.
use Prim.Native.Nat.{ℕ, ◌+◌, ◌-◌}
use native.Mathlib.Omega.{arith}
use mathlib.Core.Path.{sym, ap, ◌∙◌}
use mathlib.Core.Logic.{⊎_elim}
use lib.ListN.{length}
use Rattle.std.proofs.lemmas.Grind.{common_steps}
use Rattle.content.specs.declared.Row.{Row}
use Rattle.tables.specs.Rows.{part}
use Rattle.items.specs.Items.{listed}
use Rattle.items.proofs.Listing.{listed_none}
use Rattle.differences.specs.Differ.{differs, entry_at}
use Rattle.differences.proofs.Marks.{held, count_hit, count_miss}
use Rattle.differences.proofs.calls.count_differences.Goals as goal

pub loop-v-init : goal.loop-v-init
loop-v-init c =
    let a = c.args in
    (omega arith, sym (ap length (listed_none (entry_at a.items.now a.first.now a.second.now))), omega arith)

pub item_differs-requires : goal.item_differs-requires
item_differs-requires c =
    let a = c.args in
    held a.items.now a.first.now a.second.now c.requires c.loop-v.v (omega arith) c.row_at.ensures

pub loop-v-preserved : goal.loop-v-preserved
loop-v-preserved c = grind (arith, common_steps, count_hit, count_miss)
