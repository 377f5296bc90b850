-- The laws of the whole answer, by what the checks ensure.
use Prim.Native.Nat.{ℕ}
use mathlib.Core.Path.{sym, ap, ◌∙◌}
use lib.ListN.{length}
use native.Mathlib.Omega.{arith}
use Rattle.std.proofs.lemmas.Grind.{common_steps}
use Rattle.items.specs.Lines.{room_check}
use Rattle.differences.specs.Differ.{differences, Differing}
use Rattle.differences.proofs.Marks.{stopped, crowded, done}
use Rattle.differences.proofs.calls.differ.Goals as goal

pub returns-in_err-check_copies : goal.returns-in_err-check_copies
returns-in_err-check_copies c = grind (arith, common_steps, stopped)

pub returns-in_err-check_room : goal.returns-in_err-check_room
returns-in_err-check_room c = grind (arith, common_steps, length, crowded)

pub returns : goal.returns
returns c = grind (arith, common_steps, length, done)
