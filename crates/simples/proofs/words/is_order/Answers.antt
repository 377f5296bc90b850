use mathlib.Core.Path.{sym}
use Rattle.simples.proofs.Classes.{order-within}
use Rattle.simples.proofs.words.is_order.Goals as goal

pub returns : goal.returns
returns c = sym (order-within c.args.token)
