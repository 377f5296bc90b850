-- Rests on the laws of the first line that applies.
use mathlib.Core.Path.{sym, ◌∙◌}
use native.Mathlib.Omega.{arith}
use Rattle.std.proofs.Common.{◌≡◌, Err}
use Rattle.tables.proofs.Lines.{line_sound, line_refused, line_last}
use Rattle.merger.proofs.calls.check_rooms.Goals as goal

pub returns-in_err-check_room : goal.returns-in_err-check_room
returns-in_err-check_room c =
    let e : c.from_residual.result ≡ Err c.in_err-check_room.field-0.0 = grind arith in
    rw e (sym (line_refused _ (sym c.check_room.ensures ∙ c.in_err-check_room.was)))

pub returns : goal.returns
returns c = c.check_room-2.ensures ∙ sym (line_sound _ (sym c.check_room.ensures ∙ c.in_ok-check_room.was) ∙ line_last _)
