-- The laws of the first line that applies.
use mathlib.Core.Path.{sym, ◌∙◌}
use native.Mathlib.Omega.{arith}
use Rattle.std.proofs.lemmas.Grind.{common_steps}
use Rattle.differences.proofs.Marks.{table_stops, ends_decide}
use Rattle.differences.proofs.calls.check_copies.Goals as goal

pub returns-in_err-check_items : goal.returns-in_err-check_items
returns-in_err-check_items c = grind (arith, common_steps, table_stops)

pub returns : goal.returns
returns c = grind (arith, common_steps, ends_decide)
