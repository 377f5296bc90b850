-- Behind the description's end there is no name.
use Rattle.std.proofs.Common.{◌∙◌}
use Rattle.logbook_program.proofs.Naming.{nameless}
use Rattle.logbook_program.proofs.wording.name_at.Goals as goal

pub returns : goal.returns
returns c = c.front_bytes.ensures ∙ nameless c.args.description.now c.args.place c.if-place-description.false
