-- Rests on what `is_group` and `valid_content` return: content is valid exactly where no byte is wrong.
use mathlib.Core.Path.{sym, ap, ◌∙◌}
use mathlib.Core.Bool.{not, ◌&&◌}
use Rattle.content.specs.WrongByte.{valid_content}
use Rattle.values.specs.Comparison.{side}
use Rattle.values.proofs.Faults.{fault_flag}
use Rattle.values.proofs.sides.is_faulty.Goals as goal

pub returns-then-item-is_group : goal.returns-then-item-is_group
returns-then-item-is_group c =
    let a = c.args in
    let looked = ap (λ g. a.item && not g) (sym c.is_group.ensures) ∙ c.if-item-is_group.true in
    ap not c.valid_content.ensures
    ∙ sym (ap (λ b. b && not (valid_content a.row.kind a.row.digits a.bytes.now)) looked)
    ∙ fault_flag (side a.item a.row a.bytes.now) a.other
