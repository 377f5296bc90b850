-- The object of a relation, or stuck where no operand stands.
use native.Mathlib.Omega.{arith}
use Rattle.simples.proofs.Looking.{stands}
use Rattle.simples.proofs.Classes.{is_a_true, is_a_false}
use Rattle.simples.proofs.Resolving.{carries, reads_row, reads_stuck, at_object, at_no_object}
use Rattle.simples.proofs.simple.read_object.Goals as goal

pub returns-then-is_operand : goal.returns-then-is_operand
returns-then-is_operand c =
    let a = c.args in
    let s = a.tokens.now in
    let e = c.peek-token.ensures in
    let i = is_a_true c.is_operand.ensures c.if-is_operand.true in record {
      reads = reads_row _ 1 s a.at _ (at_object s a.at e _ _ i) (carries _ (λ n. omega arith)) (omega arith) (omega (arith, stands s a.at e i tt));
      settled = λ n. absurd (omega arith);
    }

pub returns : goal.returns
returns c =
    let a = c.args in
    let s = a.tokens.now in
    let o = is_a_false c.is_operand.ensures c.if-is_operand.false in
    record {
      reads = reads_stuck _ 1 s a.at (at_no_object s a.at c.peek-token.ensures _ _ o) (omega arith) (omega arith);
      settled = tt;
    }
