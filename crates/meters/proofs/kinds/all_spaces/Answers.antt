use mathlib.Core.Bool.{◌&&◌}
use mathlib.Core.Path.{refl, ◌∙◌}
use Rattle.std.proofs.Common.{rules, tests}
use Rattle.std.specs.List.{list_all}
use Rattle.std.proofs.lemmas.Iterator.{YieldsList-from_slice}
use Rattle.std.proofs.lemmas.Iterator.Search.{all_from_yields_List}
use Rattle.std.proofs.lemmas.List.Recursion.{same_from_clauses}
use Rattle.content.specs.Content.{all}
use Rattle.content.specs.Letters.{is_space}
use Rattle.meters.proofs.kinds.all_spaces.Goals as goal

pub returns : goal.returns
unfolding all
returns c =
    let bytes = c.args.bytes.now in
    all_from_yields_List is_space _ _ _ c.all.ensures.ran (YieldsList-from_slice bytes cc) (λ x b q k. search (rules, tests))
    ∙ same_from_clauses (list_all is_space) (all is_space) (λ b rest. is_space b && rest) refl (λ _ _. refl) (λ _ _. refl) bytes
