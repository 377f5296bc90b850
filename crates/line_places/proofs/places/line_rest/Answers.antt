-- The first line feed ends the line.
use Rattle.std.proofs.Common.{rules, ℕ, nat_eq, length, Option, ap, sym, ◌∙◌}
use Rattle.std.proofs.lemmas.Iterator.{YieldsList-from_slice}
use Rattle.std.proofs.lemmas.Iterator.Search.{position_from_yields_List}
use Rattle.std.specs.Option.{unwrap_or}
use Rattle.line_places.proofs.Walking.{rest-found}
use Rattle.line_places.proofs.places.line_rest.Goals as goal

pub returns-in-Some : goal.returns-in-Some
returns-in-Some c =
    let found = position_from_yields_List (λ b. nat_eq b 0x0A) _ _ _ c.position.ensures.ran (YieldsList-from_slice c.args.rest.now cc) (λ x b q k. search rules) in
    ap (λ (r : Option ℕ). unwrap_or r (length c.args.rest.now)) (sym c.in-Some.is ∙ found) ∙ rest-found _

pub returns-in-None : goal.returns-in-None
returns-in-None c =
    let found = position_from_yields_List (λ b. nat_eq b 0x0A) _ _ _ c.position.ensures.ran (YieldsList-from_slice c.args.rest.now cc) (λ x b q k. search rules) in
    ap (λ (r : Option ℕ). unwrap_or r (length c.args.rest.now)) (sym c.in-None.is ∙ found) ∙ rest-found _
