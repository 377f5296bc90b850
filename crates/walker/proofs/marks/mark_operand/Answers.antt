-- Rests on whether the operand is an item, which picks its case of the definition.
use mathlib.Core.List.{[]}
use mathlib.Core.Path.{sym, ◌∙◌}
use Rattle.walker.proofs.Marking.{operand_marked, operand_unmarked, operand_below}
use Rattle.walker.proofs.marks.mark_operand.Goals as goal

pub mark-requires : goal.mark-requires
mark-requires c = operand_below [] _ c.requires (sym c.is_item.ensures ∙ c.if-is_item.true)

pub returns-then-is_item : goal.returns-then-is_item
returns-then-is_item c = c.mark.ensures ∙ operand_marked _ _ (sym c.is_item.ensures ∙ c.if-is_item.true)

pub returns-else-is_item : goal.returns-else-is_item
returns-else-is_item c = operand_unmarked _ _ (sym c.is_item.ensures ∙ c.if-is_item.false)
