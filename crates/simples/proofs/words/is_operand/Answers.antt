use mathlib.Core.Path.{sym}
use Rattle.simples.proofs.Classes.{operand_kinds}
use Rattle.simples.proofs.words.is_operand.Goals as goal

pub returns : goal.returns
returns c = sym (operand_kinds c.args.token)
