use mathlib.Core.Bool.{not}
use mathlib.Core.Path.{ap, ◌∙◌}
use native.Mathlib.Omega.{arith}
use Rattle.std.proofs.lemmas.Grind.{common_steps}
use Rattle.content.specs.WrongByte.{valid_content}
use Rattle.tables.proofs.Lines.{passes, fails}
use Rattle.mending.specs.Mend.{attempt}
use Rattle.meters.proofs.Filling.{mended_skip, mended_kept, mended_done}
use Rattle.meters.proofs.kinds.mended_into.Goals as goal

pub returns-then-not-is_zoned : goal.returns-then-not-is_zoned
returns-then-not-is_zoned c =
    let a = c.args in
    c.copy_bytes.ensures ∙ mended_skip a.row.kind a.row.digits a.bytes.now (fails c.is_zoned.ensures (ap not c.if-not-is_zoned.true))

pub returns-then-not-valid : goal.returns-then-not-valid
returns-then-not-valid c = grind (arith, common_steps, passes, fails, mended_kept)

pub returns-else-not-valid : goal.returns-else-not-valid
returns-else-not-valid c = grind (arith, common_steps, passes, mended_done)
