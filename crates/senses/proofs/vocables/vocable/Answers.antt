-- `vocable` meets its contract.
use mathlib.Core.Path.{◌∙◌}
use Rattle.senses.proofs.Numbered.{looked_up}
use Rattle.senses.proofs.vocables.vocable.Goals as goal

pub returns : goal.returns
returns c = c.sense_at.ensures ∙ looked_up c.args.word.now c.word_index.result c.word_index.ensures
