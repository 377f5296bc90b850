-- Each answer rewrites with what the callees ensure and with the test that led there.
use mathlib.Core.Bool.{not}
use mathlib.Core.Path.{ap}
use mathlib.Core.Path.{◌≡◌}
use mathlib.Core.Bool.{true, false, ◌&&◌}
use mathlib.Core.List.{[]}
use Rattle.tables.specs.Operands.{lend_names, under}
use Rattle.tables.proofs.Lines.{passes, fails}
use Rattle.typing.specs.Tests.{test_of}
use Rattle.typing.specs.Shape.{shape_sound}
use Rattle.typing.specs.Typing.{typed}
use Rattle.grammar.specs.Plan.{plan_row_sound}
use Rattle.plan_checks.proofs.row_sound.Goals as goal

pub returns-then-not-condition_sound : goal.returns-then-not-condition_sound
unfolding plan_row_sound
returns-then-not-condition_sound c =
    let a = c.args in
    let lent = under a.off (lend_names a.items.now a.literals.now [] a.names.now) in
    let unsound : shape_sound lent (test_of a.row.relation) a.row.subject a.row.object && typed lent a.row.subject a.row.relation a.row.object ≡ false =
    fails c.condition_sound.ensures (ap not c.if-not-condition_sound.true) in
    rw unsound

pub returns : goal.returns
unfolding plan_row_sound
returns c = rw (
  passes c.condition_sound.ensures (ap not c.if-not-condition_sound.false),
  c.target_sound.ensures,
  c.target_sound-2.ensures,
)
