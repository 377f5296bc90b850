-- `is_word` meets its contract.
use mathlib.Core.Path.{ap, ◌∙◌}
use Prim.Native.Nat.{◌-◌}
use Rattle.description.specs.Grammar.{same}
use Rattle.vocabulary.proofs.Cells.{fits, part_is}
use Rattle.vocabulary.proofs.spellings.is_word.Goals as goal

pub is_part-requires : goal.is_part-requires
is_part-requires c =
    fits c.args.k c.requires c.start_of.result c.start_of-2.result c.start_of.ensures c.start_of-2.ensures

pub returns : goal.returns
returns c =
    c.is_part.ensures ∙ ap (same c.args.w.now) (part_is c.args.k c.requires c.start_of.result c.start_of-2.result
    c.start_of.ensures c.start_of-2.ensures)
