-- `named_once` meets its contract.
use mathlib.Core.Path.{ap, ◌∙◌}
use Prim.Native.Nat.{◌-◌}
use lib.ListN.{drop}
use Rattle.description.specs.Grammar.{bytes, all, is_name_byte}
use Rattle.spelling.specs.Names.{leading}
use Rattle.printable.proofs.Passed.{leading-bytes}
use Rattle.printable.proofs.refusals.named_once.Goals as goal

pub row_named-requires : goal.row_named-requires
row_named-requires c = (
  ap (all is_name_byte) c.name_part-name.ensures ∙ leading-bytes (drop
      c.args.place c.args.description.now),
  c.requires,
)
