use mathlib.Core.Path.{sym}
use Rattle.simples.proofs.Classes.{name_kind}
use Rattle.simples.proofs.words.is_name.Goals as goal

pub returns : goal.returns
returns c = sym (name_kind c.args.token)
