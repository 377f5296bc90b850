-- Rests on the variant that `test_of` gives, which picks its case of the definition, and on what a condition that can be marked gives to each case.
use mathlib.Core.Path.{sym, ap, ◌∙◌}
use mathlib.Core.List.{[], ◌∷◌}
use lib.ListN.{length}
use borrow.Author.Tests.{eq-eqb, ne_eqb}
use Rattle.rules.specs.Footprint.{items_among}
use Rattle.walker.specs.Marks.{marked}
use Rattle.walker.proofs.Marking.{marked_none, marked_one, marked-length, two_marked, name_below, relation_below, class-below, sign_below}
use Rattle.walker.proofs.marks.mark_condition.Goals as goal

pub mark-requires : goal.mark-requires
mark-requires c =
    rw c.number_at.ensures
    (name_below c.requires (sym c.test_of-test.ensures ∙ c.in-Alone.is) (eq-eqb _ 5 c.if-subject-eq-NAME.true))

pub mark_operand-requires : goal.mark_operand-requires
mark_operand-requires c =
    (relation_below c.requires (sym c.test_of-test.ensures ∙ c.in-Relation.is)).0

pub mark_operand-requires-in-Relation : goal.mark_operand-requires-in-Relation
mark_operand-requires-in-Relation c =
    rw (ap length c.mark_operand.ensures ∙ marked-length _ _) (relation_below c.requires (sym c.test_of-test.ensures ∙ c.in-Relation.is)).1

pub mark_operand-requires-in-Class : goal.mark_operand-requires-in-Class
mark_operand-requires-in-Class c =
    class-below c.requires (sym c.test_of-test.ensures ∙ c.in-Class.is)

pub mark_operand-requires-in-Sign : goal.mark_operand-requires-in-Sign
mark_operand-requires-in-Sign c =
    sign_below c.requires (sym c.test_of-test.ensures ∙ c.in-Sign.is)

pub returns-then-subject-eq-NAME : goal.returns-then-subject-eq-NAME
returns-then-subject-eq-NAME c =
    rw (sym c.test_of-test.ensures ∙ c.in-Alone.is, eq-eqb _ 5 c.if-subject-eq-NAME.true)
    (rw c.number_at.ensures at c.mark.ensures ∙ sym (marked_one _ _))

pub returns-else-subject-eq-NAME : goal.returns-else-subject-eq-NAME
returns-else-subject-eq-NAME c = rw (sym c.test_of-test.ensures ∙ c.in-Alone.is, ne_eqb _ 5 c.if-subject-eq-NAME.false) (sym (marked_none _))

pub returns-in-Relation : goal.returns-in-Relation
returns-in-Relation c =
    let a = c.args in
    rw (sym c.test_of-test.ensures ∙ c.in-Relation.is)
    (c.mark_operand-in-Relation.ensures ∙ ap (λ m. marked m (items_among (a.object ∷ []))) c.mark_operand.ensures ∙ two_marked _ _ _)

pub returns-in-Unknown : goal.returns-in-Unknown
returns-in-Unknown c = rw (sym c.test_of-test.ensures ∙ c.in-Unknown.is) (sym (marked_none _))
