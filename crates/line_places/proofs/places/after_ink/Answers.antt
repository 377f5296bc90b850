-- The first byte without ink.
use Rattle.std.proofs.Common.{rules, ◌||◌, nat_lt}
use Rattle.std.proofs.lemmas.Iterator.{YieldsList-from_slice}
use Rattle.std.proofs.lemmas.Iterator.Consumers.{YieldsList-from_copied}
use Rattle.std.proofs.lemmas.Iterator.Search.{find_from_yields_List}
use Rattle.line_places.proofs.Walking.{ink-found}
use Rattle.line_places.proofs.places.after_ink.Goals as goal

pub returns : goal.returns
returns c =
    let items = YieldsList-from_copied (YieldsList-from_slice c.args.rest.now cc) in
    let found = find_from_yields_List (λ b. nat_lt b 0x21 || nat_lt 0x7E b) _ _ _ c.find.ensures.ran items (λ x b q k. search rules) in
    rw c.unwrap_or.ensures (ink-found _ _ found)
