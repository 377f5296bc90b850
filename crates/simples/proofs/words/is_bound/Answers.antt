use mathlib.Core.Path.{sym}
use Rattle.simples.proofs.Classes.{bound_within}
use Rattle.simples.proofs.words.is_bound.Goals as goal

pub returns : goal.returns
returns c = sym (bound_within c.args.token)
