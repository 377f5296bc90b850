-- Each return cites how the parser goes on by the words after the operand.
use mathlib.Core.Path.{refl, sym, ◌∙◌}
use Prim.Native.Nat.{◌+◌, ◌≤◌, ◌<◌}
use native.Mathlib.Omega.{arith}
use Rattle.std.proofs.lemmas.Grind.{common_steps}
use Rattle.simples.specs.Reads.{carry_of}
use Rattle.simples.proofs.Looking.{inside}
use Rattle.simples.proofs.Classes.{within_false, order-within, bound_within, test_within}
use Rattle.simples.proofs.Resolving.{Here, word_here, relation_here, no_word, carries_none}
use Rattle.simples.proofs.Resolving.{reads_row, reads_stuck, reads_on, at_relation, at_test, at_bare, at_no_carry, at_not_order, at_not_test, at_not_stuck}
use Rattle.simples.proofs.simple.after_operand.Goals as goal

pub overflow_sub-word : goal.overflow_sub-word
overflow_sub-word c =
    let relation : (let a = c.args in
    Here a.tokens.now a.at c.peek-word.result 262149 262153) = (relation_here _ _ _ _ c.peek-word.ensures (c.is_order.ensures ∙ order-within _) (c.is_bound.ensures ∙ bound_within _) c.if-is_order-is_bound.true) in
    omega (arith, relation)

pub read_object-requires : goal.read_object-requires
read_object-requires c =
    let relation : (let a = c.args in
    Here a.tokens.now a.at c.peek-word.result 262149 262153) = (relation_here _ _ _ _ c.peek-word.ensures (c.is_order.ensures ∙ order-within _) (c.is_bound.ensures ∙ bound_within _) c.if-is_order-is_bound.true) in
    omega (arith, relation)

pub returns-then-is_order-is_bound : goal.returns-then-is_order-is_bound
returns-then-is_order-is_bound c =
    let relation : (let a = c.args in
    Here a.tokens.now a.at c.peek-word.result 262149 262153) = (relation_here _ _ _ _ c.peek-word.ensures (c.is_order.ensures ∙ order-within _) (c.is_bound.ensures ∙ bound_within _) c.if-is_order-is_bound.true) in
    let a = c.args in
    let all = relation in let l = all.0 in let h = all.1 in let i = all.2 in record {
      reads = reads_on _ 0 _ _ _ 1 _ c.read_object.result
          (at_relation _ _ c.peek-word.ensures (carry_of a.carry) _ l h)
          (omega arith) (omega arith) c.read_object.ensures.reads;
      settled = c.read_object.ensures.settled;
    }

pub overflow_sub-word-then-is_test : goal.overflow_sub-word-then-is_test
overflow_sub-word-then-is_test c =
    let tested : (let a = c.args in
    Here a.tokens.now a.at c.peek-word.result 262154 262160) = (word_here _ _ _ _ c.peek-word.ensures (omega arith) (c.is_test.ensures ∙ test_within _) c.if-is_test.true) in
    omega (arith, tested)

pub returns-then-is_test : goal.returns-then-is_test
returns-then-is_test c = grind (arith, common_steps, test_within, Here, word_here, carries_none, reads_row, at_test)

pub overflow_sub-stated : goal.overflow_sub-stated
overflow_sub-stated c =
    let not_relation : (let a = c.args in
    Here a.tokens.now (a.at + 1) c.peek-stated.result 262149 262151) = (word_here _ _ _ _ c.peek-stated.ensures (omega arith) (c.is_order-then-word-eq-NOT.ensures ∙ order-within _) c.if-is_order.true) in
    omega (arith, not_relation)

pub read_object-requires-then-is_order : goal.read_object-requires-then-is_order
read_object-requires-then-is_order c =
    let not_relation : (let a = c.args in
    Here a.tokens.now (a.at + 1) c.peek-stated.result 262149 262151) = (word_here _ _ _ _ c.peek-stated.ensures (omega arith) (c.is_order-then-word-eq-NOT.ensures ∙ order-within _) c.if-is_order.true) in
    omega (arith, not_relation)

pub returns-then-is_order : goal.returns-then-is_order
returns-then-is_order c =
    let not_relation : (let a = c.args in
    Here a.tokens.now (a.at + 1) c.peek-stated.result 262149 262151) = (word_here _ _ _ _ c.peek-stated.ensures (omega arith) (c.is_order-then-word-eq-NOT.ensures ∙ order-within _) c.if-is_order.true) in
    let e = c.peek-word.ensures in
    let a = c.args in
    let all = not_relation in let l = all.0 in let h = all.1 in let i = all.2 in record {
      reads = reads_on _ 0 _ _ _ 1 _ c.read_object-then-is_order.result
          (at_not_order _ _ e c.peek-stated.ensures (carry_of a.carry) _ c.if-word-eq-NOT.true l h)
          (omega arith) (omega arith) c.read_object-then-is_order.ensures.reads;
      settled = c.read_object-then-is_order.ensures.settled;
    }

pub overflow_sub-stated-then-is_test-2 : goal.overflow_sub-stated-then-is_test-2
overflow_sub-stated-then-is_test-2 c =
    let not_tested : (let a = c.args in
    Here a.tokens.now (a.at + 1) c.peek-stated.result 262154 262160) = (word_here _ _ _ _ c.peek-stated.ensures (omega arith) (c.is_test-then-word-eq-NOT.ensures ∙ test_within _) c.if-is_test-2.true) in
    omega (arith, not_tested)

pub returns-then-is_test-2 : goal.returns-then-is_test-2
returns-then-is_test-2 c = grind (arith, common_steps, test_within, Here, word_here, carries_none, reads_row, at_not_test)

pub returns-then-word-eq-NOT : goal.returns-then-word-eq-NOT
returns-then-word-eq-NOT c =
    let e = c.peek-word.ensures in
    let a = c.args in record {
      reads = reads_stuck _ 0 _ _
          (at_not_stuck _ _ e c.peek-stated.ensures (carry_of a.carry) _ c.if-word-eq-NOT.true
          (within_false _ _ _ (sym (c.is_order-then-word-eq-NOT.ensures ∙ order-within _) ∙ c.if-is_order.false))
          (within_false _ _ _ (sym (c.is_test-then-word-eq-NOT.ensures ∙ test_within _) ∙ c.if-is_test-2.false)))
          (omega arith) (omega (arith, inside _ _ e (omega arith)));
      settled = tt;
    }

pub returns-then-relation-eq0 : goal.returns-then-relation-eq0
returns-then-relation-eq0 c =
    let neither : (let x = c.peek-word.result in 262149 ≤ x → 262160 < x) = (no_word _ _ _ _ (c.is_order.ensures ∙ order-within _) (c.is_bound.ensures ∙ bound_within _) c.if-is_order-is_bound.false (c.is_test.ensures
    ∙ test_within _) c.if-is_test.false) in
    record {
      reads = reads_stuck _ 0 _ _
          (at_no_carry _ _ c.peek-word.ensures _ _ neither c.if-word-eq-NOT.false c.if-relation-eq0.true)
          (omega arith) (omega arith);
      settled = tt;
    }

pub returns : goal.returns
returns c =
    let neither : (let x = c.peek-word.result in 262149 ≤ x → 262160 < x) = (no_word _ _ _ _ (c.is_order.ensures ∙ order-within _) (c.is_bound.ensures ∙ bound_within _) c.if-is_order-is_bound.false (c.is_test.ensures
    ∙ test_within _) c.if-is_test.false) in
    record {
      reads = reads_row _ 0 _ _ _
          (at_bare _ _ c.peek-word.ensures _ _ neither c.if-word-eq-NOT.false c.if-relation-eq0.false)
          refl (omega arith) (omega arith);
      settled = λ n. absurd (c.if-relation-eq0.false n);
    }
