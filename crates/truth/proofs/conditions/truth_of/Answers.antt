-- Rests on the variant that `test_of` gives, which picks its case of the definition, and on what a readable condition gives to each case.
use mathlib.Core.Path.{refl, sym, ap, ◌∙◌}
use borrow.Author.Tests.{eq-eqb, ne_eqb}
use native.Mathlib.Omega.{arith}
use Rattle.std.proofs.lemmas.Grind.{common_steps}
use Rattle.compare.specs.Switches.{switch_holds}
use Rattle.values.specs.Truth.{truth, outcome}
use Rattle.values.proofs.Reading.{side_unnamed, read-switch, read_relation, read-class, read_sign}
use Rattle.truth.proofs.conditions.truth_of.Goals as goal

pub returns-then-subject-eq-NAME : goal.returns-then-subject-eq-NAME
unfolding outcome
returns-then-subject-eq-NAME c = grind (arith, common_steps, eq-eqb)

pub relation_outcome-requires : goal.relation_outcome-requires
relation_outcome-requires c =
    let s = read_relation c.requires (sym c.test_of-test.ensures ∙ c.in-Relation.is) in
    record {
      sided = side_unnamed s.0;
      sided_2 = side_unnamed s.1;
    }

pub class_outcome-requires : goal.class_outcome-requires
class_outcome-requires c =
    side_unnamed (read-class c.requires (sym c.test_of-test.ensures ∙ c.in-Class.is))

pub sign_outcome-requires : goal.sign_outcome-requires
sign_outcome-requires c =
    let s = read_sign c.requires (sym c.test_of-test.ensures ∙ c.in-Sign.is) in
    record {
      sided = side_unnamed s.0;
      subject_value = s.1;
    }

pub returns-else-subject-eq-NAME : goal.returns-else-subject-eq-NAME
unfolding outcome switch_holds
returns-else-subject-eq-NAME c =
    let test = sym c.test_of-test.ensures ∙ c.in-Alone.is in
    let no_name = ne_eqb _ 5 c.if-subject-eq-NAME.false in
    let on = (read-switch c.requires refl test no_name).0 in
    rw (test, no_name, on) (c.truth_value.ensures ∙ ap truth c.switch_on.ensures)

pub returns-in-Relation : goal.returns-in-Relation
unfolding outcome
returns-in-Relation c = grind (arith, common_steps)

pub returns-in-Class : goal.returns-in-Class
unfolding outcome
returns-in-Class c = grind (arith, common_steps)

pub returns-in-Sign : goal.returns-in-Sign
unfolding outcome
returns-in-Sign c = grind (arith, common_steps)
