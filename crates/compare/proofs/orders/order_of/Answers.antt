-- std's order of two numbers.
use mathlib.Core.Path.{◌∙◌}
use Rattle.compare.proofs.OrderLaws.{order_cmp}
use Rattle.compare.proofs.orders.order_of.Goals as goal

pub returns : goal.returns
returns c = c.cmp.ensures ∙ order_cmp c.args.a c.args.b
