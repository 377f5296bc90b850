-- The output before the call is so many sevens.
use Rattle.std.proofs.Common.{◌≡◌, ◌-◌, arith}
use Rattle.cases.proofs.Keeping.{sevens}
use borrow.Author.Tests.{le-leb}
use Rattle.cases.proofs.answers.plan.Goals as goal

pub returns-then-room-le-ROOM : goal.returns-then-room-le-ROOM
returns-then-room-le-ROOM g c =
    let room = c.args.room in
    let whole : room - 0 ≡ room = omega arith in
    rw (le-leb room 700 c.if-room-le-ROOM.true, ← (sevens room 700 c.if-room-le-ROOM.true)) (rw whole at c.plan_kept.ensures.0)
