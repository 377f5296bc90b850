-- The laws of a loop that lists.
use Prim.Native.Nat.{◌+◌, ◌-◌}
use native.Mathlib.Omega.{arith}
use mathlib.Core.Path.{ap, ◌∙◌}
use lib.ListN.{length}
use lib.Seq.{sets}
use Rattle.std.proofs.lemmas.Grind.{common_steps}
use Rattle.content.specs.declared.Row.{Row}
use Rattle.tables.specs.Rows.{part}
use Rattle.items.proofs.Listing.{listing_start, listing-fits, listing_more}
use Rattle.differences.specs.Differ.{entry_of}
use Rattle.differences.proofs.Marks.{held, few}
use Rattle.differences.proofs.calls.write_differences.Goals as goal

pub loop-v-init : goal.loop-v-init
loop-v-init c = listing_start _ _ _

pub overflow_cast-v : goal.overflow_cast-v
overflow_cast-v c =
    let a = c.args in
    omega (arith, few a.items.now a.first.now a.second.now c.requires.0)

pub list_row-count-requires : goal.list_row-count-requires
list_row-count-requires c =
    let a = c.args in
    let e = c.row_at.ensures in (
      held a.items.now a.first.now a.second.now c.requires.0 c.loop-v.v (omega arith) e,
      rw e (listing-fits c.loop-v.invariant (omega arith) c.requires.1),
    )

pub loop-v-preserved : goal.loop-v-preserved
loop-v-preserved c =
    let a = c.args in
    let first = a.first.now in
    let second = a.second.now in
    let at-loop = c.loop-v in
    let row = c.row_at.ensures in
    let called = c.list_row-count.ensures in
    listing_more at-loop.invariant (omega arith) c.requires.1
    (called.list_after ∙ ap (λ (r : Row). sets at-loop.list at-loop.count (entry_of r at-loop.v (part r first) (part r second))) row)
    (called.value ∙ ap (λ (r : Row). at-loop.count + length (entry_of r at-loop.v (part r first) (part r second))) row)
