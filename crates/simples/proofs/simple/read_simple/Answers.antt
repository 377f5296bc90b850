-- Each return cites how the parser goes on by the class of the first token.
use mathlib.Core.Path.{◌≡◌, refl, ◌∙◌}
use native.Mathlib.Omega.{arith}
use Rattle.std.proofs.lemmas.Grind.{common_steps}
use Rattle.simples.specs.Reads.{carry_of}
use Rattle.simples.proofs.Looking.{stands}
use Rattle.simples.proofs.Classes.{is_a_true, is_a_false, bound_within}
use Rattle.simples.proofs.Resolving.{Here, short_here, no_short, carries_none, reads_row, reads_stuck, reads_on}
use Rattle.simples.proofs.Resolving.{at_operand, at_switch, at_name, at_bound, at_no_simple}
use Rattle.simples.proofs.simple.read_simple.Goals as goal

pub after_operand-requires : goal.after_operand-requires
after_operand-requires c = omega (arith, stands _ _ c.peek-token.ensures (is_a_true c.is_operand.ensures c.if-is_operand.true) tt)

pub returns-then-is_operand : goal.returns-then-is_operand
returns-then-is_operand c =
    let i = is_a_true c.is_operand.ensures c.if-is_operand.true in record {
      reads = reads_on _ 1 _ _ _ 0 _ c.after_operand.result (at_operand _ _ c.peek-token.ensures (carry_of c.args.carry) i)
          (omega arith) (omega arith) c.after_operand.ensures.reads;
      settled = c.after_operand.ensures.settled;
    }

pub returns-then-is_switch : goal.returns-then-is_switch
returns-then-is_switch c = grind (arith, common_steps, stands, is_a_true, carries_none, reads_row, at_switch)

pub returns-then-is_name : goal.returns-then-is_name
returns-then-is_name c = grind (arith, common_steps, stands, is_a_true, carries_none, reads_row, at_name)

pub read_object-requires : goal.read_object-requires
read_object-requires c =
    let short : (Here c.args.tokens.now c.args.at c.peek-token.result 262152 262153 × (c.args.carry.relation ≡ 0 → ⊥)) = (short_here _ _ _ _ _ _ c.peek-token.ensures (omega arith)
    (c.is_bound.ensures ∙ bound_within _) c.if-is_bound-relation.true) in
    omega (arith, short.0)

pub returns-then-is_bound-relation : goal.returns-then-is_bound-relation
returns-then-is_bound-relation c =
    let short : (let t = c in
    Here t.args.tokens.now t.args.at t.peek-token.result 262152 262153 × (t.args.carry.relation ≡ 0 → ⊥)) = (short_here _ _ _ _ _ _ c.peek-token.ensures (omega arith)
    (c.is_bound.ensures ∙ bound_within _) c.if-is_bound-relation.true) in
    let ((l, h, i), n) = short in record {
      reads = reads_on _ 1 _ _ _ 1 _ c.read_object.result
          (at_bound _ _ c.peek-token.ensures c.args.carry
          (is_a_false c.is_operand.ensures c.if-is_operand.false)
          (is_a_false c.is_switch.ensures c.if-is_switch.false)
          (is_a_false c.is_name.ensures c.if-is_name.false) n l h)
          (omega arith) (omega arith) c.read_object.ensures.reads;
      settled = c.read_object.ensures.settled;
    }

pub returns : goal.returns
returns c =
    record {
      reads = reads_stuck _ 1 _ _
          (at_no_simple _ _ c.peek-token.ensures c.args.carry
          (is_a_false c.is_operand.ensures c.if-is_operand.false)
          (is_a_false c.is_switch.ensures c.if-is_switch.false)
          (is_a_false c.is_name.ensures c.if-is_name.false)
          (no_short _ _ _ _ (c.is_bound.ensures ∙ bound_within _) c.if-is_bound-relation.false))
          (omega arith) (omega arith);
      settled = tt;
    }

pub overflow_sub-token : goal.overflow_sub-token
overflow_sub-token c =
    let short : (Here c.args.tokens.now c.args.at c.peek-token.result 262152 262153 × (c.args.carry.relation ≡ 0 → ⊥)) = (short_here _ _ _ _ _ _ c.peek-token.ensures (omega arith)
    (c.is_bound.ensures ∙ bound_within _) c.if-is_bound-relation.true) in
    omega (arith, short.0)
