use mathlib.Core.Path.{sym}
use Rattle.simples.proofs.Classes.{switch-kinds}
use Rattle.simples.proofs.words.is_switch.Goals as goal

pub returns : goal.returns
returns c = sym (switch-kinds c.args.token)
