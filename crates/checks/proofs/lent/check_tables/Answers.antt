-- What the checks of each line ensure, and the laws of the first line that applies.
use mathlib.Core.Bool.{not}
use mathlib.Core.Path.{ap}
use mathlib.Core.Path.{sym, ◌∙◌}
use native.Mathlib.Omega.{arith}
use Rattle.std.proofs.lemmas.Grind.{common_steps}
use Rattle.tables.specs.declared.Refusal.TheVariants.{ItemTable, LiteralTable}
use Rattle.tables.proofs.Lines.{test_passed, test_failed, line_sound, line_refused, line_last}
use Rattle.checks.proofs.lent.check_tables.Goals as goal

pub returns-then-not-length_sound : goal.returns-then-not-length_sound
returns-then-not-length_sound c = sym (line_refused _ (test_failed ItemTable c.length_sound.ensures (ap not c.if-not-length_sound.true)))

pub returns-in_err-check_item_rows : goal.returns-in_err-check_item_rows
returns-in_err-check_item_rows c = grind (arith, common_steps, test_passed, line_sound, line_refused)

pub returns-then-not-length_sound-2 : goal.returns-then-not-length_sound-2
returns-then-not-length_sound-2 c = grind (arith, common_steps, test_passed, test_failed, line_sound, line_refused)

pub returns : goal.returns
returns c = grind (arith, common_steps, test_passed, line_sound, line_last)
