-- The laws of a loop that lists.
use native.Mathlib.Omega.{arith}
use Rattle.items.proofs.Listing.{listing_start, listing-fits, listing_more}
use Rattle.walker.proofs.marks.write_marked.Goals as goal

pub loop-v-init : goal.loop-v-init
loop-v-init c = listing_start _ _ _

pub list_row-count-requires : goal.list_row-count-requires
list_row-count-requires c = (omega arith, omega arith, listing-fits c.loop-v.invariant (omega arith) c.requires.2)

pub loop-v-preserved : goal.loop-v-preserved
loop-v-preserved c =
    listing_more c.loop-v.invariant (omega arith) c.requires.2 c.list_row-count.ensures.list_after c.list_row-count.ensures.value
