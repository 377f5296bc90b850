-- Each return cites its law of Steps.antt, and so does each turn of a loop.
use mathlib.Core.Path.{◌≡◌, ◌∙◌}
use Prim.Native.Nat.{◌+◌}
use native.Mathlib.Omega.{arith}
use Rattle.std.proofs.lemmas.Result.{err_from_is_err_and}
use Rattle.simples.proofs.Looking.{inside}
use Rattle.simples.proofs.Classes.{order-within}
use Rattle.simples.proofs.Resolving.{Here, short_here, no_short}
use Rattle.parser.proofs.Steps.{conditions, chains, joins_stuck, joins_part, joins_on, single}
use Rattle.parser.proofs.Steps.{term_order, term_plain, term_not_order, term_not_stuck, term_not_row, body_simple, body_stuck, body_shut, body_not_shut}
use Rattle.parser.proofs.cycle.+body_chain_condition_term.Goals as goal

pub body-returns-then-peek-ne-OPEN : goal.body-returns-then-peek-ne-OPEN
body-returns-then-peek-ne-OPEN t c =
    single c.read_simple.result c.requires c.read_simple.ensures.reads c.put_single.ensures (omega arith)
    (body_simple _ _ _ c.peek.ensures c.if-peek-ne-OPEN.true)

pub body-condition-requires : goal.body-condition-requires
body-condition-requires t c = omega (arith, inside _ _ c.peek.ensures (omega arith))

pub body-returns-in_err-inner : goal.body-returns-in_err-inner
body-returns-in_err-inner t c = let q = err_from_is_err_and c.from_residual.result c.from_residual.ensures.1 in rw (q.1, q.2) (body_stuck _ _ _ c.peek.ensures c.if-peek-ne-OPEN.false c.in_err-inner.ensures)

pub body-returns : goal.body-returns
body-returns t c =
    body_shut _ _ _ c.peek.ensures c.if-peek-ne-OPEN.false c.in_ok-inner.ensures c.peek-2.ensures c.if-peek-ne-CLOSE.false

pub body-returns-then-peek-ne-CLOSE : goal.body-returns-then-peek-ne-CLOSE
body-returns-then-peek-ne-CLOSE t c =
    body_not_shut _ _ _ c.peek.ensures c.if-peek-ne-OPEN.false c.in_ok-inner.ensures c.peek-2.ensures c.requires
    c.if-peek-ne-CLOSE.true

pub chain-returns-in_err-part : goal.chain-returns-in_err-part
chain-returns-in_err-part t c = let q = err_from_is_err_and c.from_residual.result c.from_residual.ensures.1 in rw (q.1, q.2) (c.loop-part.invariant.whole _ _ (joins_stuck chains c.in_err-part.ensures))

pub chain-returns-then-peek-ne-AND : goal.chain-returns-then-peek-ne-AND
chain-returns-then-peek-ne-AND t c =
    c.loop-part.invariant.whole _ _ (joins_part chains c.in_ok-part.ensures c.peek.ensures c.if-peek-ne-AND.true)

pub chain-loop-part-smaller : goal.chain-loop-part-smaller
chain-loop-part-smaller t c =
    omega (
      arith,
      inside _ _ c.peek.ensures (omega (arith, c.if-peek-ne-AND.false)),
      c.in_ok-part.ensures,
      c.loop-part.invariant,
    )

pub chain-loop-part-preserved : goal.chain-loop-part-preserved
chain-loop-part-preserved t c =
    joins_on chains c.loop-part.invariant c.in_ok-part.ensures c.peek.ensures c.if-peek-ne-AND.false
    (rw (c.later-rest.ensures, c.verdict-done.ensures) at c.retarget.ensures)
    (omega (arith, c.retarget.auto, c.term.auto))

pub condition-returns-in_err-part : goal.condition-returns-in_err-part
condition-returns-in_err-part t c = let q = err_from_is_err_and c.from_residual.result c.from_residual.ensures.1 in rw (q.1, q.2) (c.loop-part.invariant.whole _ _ (joins_stuck conditions c.in_err-part.ensures))

pub condition-returns-then-peek-ne-OR : goal.condition-returns-then-peek-ne-OR
condition-returns-then-peek-ne-OR t c =
    c.loop-part.invariant.whole _ _ (joins_part conditions c.in_ok-part.ensures c.peek.ensures c.if-peek-ne-OR.true)

pub condition-loop-part-smaller : goal.condition-loop-part-smaller
condition-loop-part-smaller t c =
    omega (
      arith,
      inside _ _ c.peek.ensures (omega (arith, c.if-peek-ne-OR.false)),
      c.in_ok-part.ensures,
      c.loop-part.invariant,
    )

pub condition-loop-part-preserved : goal.condition-loop-part-preserved
condition-loop-part-preserved t c =
    joins_on conditions c.loop-part.invariant c.in_ok-part.ensures c.peek.ensures c.if-peek-ne-OR.false
    (rw (c.later-rest.ensures, c.verdict-done.ensures) at c.retarget.ensures)
    (omega (arith, c.retarget.auto, c.chain.auto))

-- > < = where a relation is carried, at the place
pub term-overflow_sub-here : goal.term-overflow_sub-here
term-overflow_sub-here t c =
    let order_here : Here c.args.tokens.now c.args.at c.peek-here.result 262149 262151 × (c.args.carry.relation ≡ 0 → ⊥) =
    short_here _ _ _ _ _ _ c.peek-here.ensures (omega arith) (c.is_order.ensures ∙ order-within _) c.if-is_order-relation.true in
    omega (arith, order_here.0)

pub term-read_object-requires : goal.term-read_object-requires
term-read_object-requires t c =
    let order_here : Here c.args.tokens.now c.args.at c.peek-here.result 262149 262151 × (c.args.carry.relation ≡ 0 → ⊥) =
    short_here _ _ _ _ _ _ c.peek-here.ensures (omega arith) (c.is_order.ensures ∙ order-within _) c.if-is_order-relation.true in
    omega (arith, order_here.0)

pub term-returns-then-is_order-relation : goal.term-returns-then-is_order-relation
term-returns-then-is_order-relation t c =
    let order_here : Here c.args.tokens.now c.args.at c.peek-here.result 262149 262151 × (c.args.carry.relation ≡ 0 → ⊥) =
    short_here _ _ _ _ _ _ c.peek-here.ensures (omega arith) (c.is_order.ensures ∙ order-within _) c.if-is_order-relation.true in
    single c.read_object.result c.requires c.read_object.ensures.reads c.put_single.ensures (omega arith)
    (term_order _ _ _ c.peek-here.ensures order_here.1 order_here.0.0 order_here.0.1)

pub term-returns-then-here-ne-NOT : goal.term-returns-then-here-ne-NOT
term-returns-then-here-ne-NOT t c =
    term_plain _ _ _ c.peek-here.ensures c.if-here-ne-NOT.true
    (no_short _ _ _ _ (c.is_order.ensures ∙ order-within _) c.if-is_order-relation.false) c.body.ensures

-- after a NOT there
pub term-overflow_sub-after : goal.term-overflow_sub-after
term-overflow_sub-after t c =
    let order_after : Here c.args.tokens.now (c.args.at + 1) c.peek-after.result 262149 262151 × (c.args.carry.relation ≡ 0 → ⊥) =
    short_here _ _ _ _ _ _ c.peek-after.ensures (omega arith) (c.is_order-2.ensures ∙ order-within _) c.if-is_order-relation-2.true in
    omega (arith, order_after.0)

pub term-read_object-requires-then-is_order-relation-2 : goal.term-read_object-requires-then-is_order-relation-2
term-read_object-requires-then-is_order-relation-2 t c =
    let order_after : Here c.args.tokens.now (c.args.at + 1) c.peek-after.result 262149 262151 × (c.args.carry.relation ≡ 0 → ⊥) =
    short_here _ _ _ _ _ _ c.peek-after.ensures (omega arith) (c.is_order-2.ensures ∙ order-within _) c.if-is_order-relation-2.true in
    omega (arith, order_after.0)

pub term-returns-then-is_order-relation-2 : goal.term-returns-then-is_order-relation-2
term-returns-then-is_order-relation-2 t c =
    let order_after : Here c.args.tokens.now (c.args.at + 1) c.peek-after.result 262149 262151 × (c.args.carry.relation ≡ 0 → ⊥) =
    short_here _ _ _ _ _ _ c.peek-after.ensures (omega arith) (c.is_order-2.ensures ∙ order-within _) c.if-is_order-relation-2.true in
    let read = c.read_object-then-is_order-relation-2 in
    single read.result c.requires read.ensures.reads c.put_single-then-is_order-relation-2.ensures (omega arith)
    (term_not_order _ _ _ c.peek-here.ensures c.if-here-ne-NOT.false c.peek-after.ensures order_after.1 order_after.0.0 order_after.0.1)

pub term-body-requires-2 : goal.term-body-requires-2
term-body-requires-2 t c = omega (arith, inside _ _ c.peek-here.ensures (omega (arith, c.if-here-ne-NOT.false)))

pub term-returns-in_err-inner : goal.term-returns-in_err-inner
term-returns-in_err-inner t c =
    let q = err_from_is_err_and c.from_residual.result c.from_residual.ensures.1 in rw (q.1, q.2)
    (term_not_stuck _ _ _ c.peek-here.ensures c.if-here-ne-NOT.false c.peek-after.ensures
    (no_short _ _ _ _ (c.is_order-2.ensures ∙ order-within _) c.if-is_order-relation-2.false) c.in_err-inner.ensures)

pub term-returns : goal.term-returns
term-returns t c =
    term_not_row _ _ _ c.peek-here.ensures c.if-here-ne-NOT.false c.peek-after.ensures
    (no_short _ _ _ _ (c.is_order-2.ensures ∙ order-within _) c.if-is_order-relation-2.false) c.requires c.in_ok-inner.ensures
    (rw (c.verdict.ensures, c.verdict-2.ensures) at c.retarget.ensures)
