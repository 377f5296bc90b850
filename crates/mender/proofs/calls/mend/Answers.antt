-- The laws of the whole answer, by what the checks ensure.
use Prim.Native.Nat.{ℕ}
use mathlib.Core.Path.{sym, ap, ◌∙◌}
use mathlib.Core.List.{◌++◌}
use lib.ListN.{length, drop}
use native.Mathlib.Omega.{arith}
use Rattle.std.proofs.lemmas.Grind.{common_steps}
use Rattle.items.specs.Lines.{room_check}
use Rattle.mending.specs.Mend.{Mending, changes}
use Rattle.mender.proofs.Answering.{stopped, crowded, done}
use Rattle.mender.proofs.calls.mend.Goals as goal

pub returns-in_err-check_mend : goal.returns-in_err-check_mend
returns-in_err-check_mend c = grind (arith, common_steps, stopped)

pub returns-in_err-check_room : goal.returns-in_err-check_room
returns-in_err-check_room c = grind (arith, common_steps, length, crowded)

pub returns : goal.returns
returns c = grind (arith, common_steps, length, drop, done)
