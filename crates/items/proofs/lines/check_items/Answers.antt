-- A table without literals has 1 and 2 only.
use mathlib.Core.Path.{◌∙◌}
use Rattle.items.proofs.Facts.{no_literals}
use Rattle.items.proofs.lines.check_items.Goals as goal

pub returns : goal.returns
returns c = c.check_tables.ensures ∙ no_literals c.args.items.now
