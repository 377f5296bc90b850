-- Each return cites what the next part is, by the token at its place.
use mathlib.Core.Path.{◌≡◌, ◌∙◌}
use Prim.Native.Nat.{◌+◌}
use native.Mathlib.Omega.{arith}
use Rattle.simples.proofs.Classes.{order-within}
use Rattle.simples.proofs.Resolving.{Here, short_here, no_short, reads_on}
use Rattle.expander.proofs.Parting.{reads_bracket, reads_joint, reads_logical, part_not, part_short, part_other}
use Rattle.expander.proofs.expand.read_part.Goals as goal

pub returns-then-here : goal.returns-then-here
returns-then-here c = rw c.copied.ensures (reads_bracket _ _ c.peek-here.ensures _ c.if-here.true)

pub returns-then-here-2 : goal.returns-then-here-2
returns-then-here-2 c = rw c.copied-then-here-2.ensures (reads_joint _ _ c.peek-here.ensures _ c.if-here-2.true)

pub overflow_sub-after : goal.overflow_sub-after
overflow_sub-after c =
    let not_short : (let a = c.args in
    Here a.tokens.now (a.at + 1) c.peek-after.result 262149 262151 × (a.carry.relation ≡ 0 → ⊥)) = (short_here _ _ _ _ _ _ c.peek-after.ensures (omega arith) (c.is_order.ensures ∙ order-within _) c.if-is_order-relation.true) in
    omega (arith, not_short.0)

pub read_object-requires : goal.read_object-requires
read_object-requires c =
    let not_short : (let a = c.args in
    Here a.tokens.now (a.at + 1) c.peek-after.result 262149 262151 × (a.carry.relation ≡ 0 → ⊥)) = (short_here _ _ _ _ _ _ c.peek-after.ensures (omega arith) (c.is_order.ensures ∙ order-within _) c.if-is_order-relation.true) in
    omega (arith, not_short.0)

pub returns-then-is_order-relation : goal.returns-then-is_order-relation
returns-then-is_order-relation c =
    let not_short : (let a = c.args in
    Here a.tokens.now (a.at + 1) c.peek-after.result 262149 262151 × (a.carry.relation ≡ 0 → ⊥)) = (short_here _ _ _ _ _ _ c.peek-after.ensures (omega arith) (c.is_order.ensures ∙ order-within _) c.if-is_order-relation.true) in
    let e = c.peek-here.ensures in
    let a = c.args in
    let ((l, h, i), n) = not_short in
    reads_on _ 1 _ _ _ 1 _ c.read_object.result
    (part_not _ _ e a.carry c.peek-after.ensures c.if-here-eq-NOT.true n l h)
    (omega arith) (omega arith) c.read_object.ensures.reads

pub returns-then-here-eq-NOT : goal.returns-then-here-eq-NOT
returns-then-here-eq-NOT c =
    let e = c.peek-here.ensures in
    let far = no_short _ _ _ _ (c.is_order.ensures ∙ order-within _) c.if-is_order-relation.false in
    rw c.copied-then-here-eq-NOT.ensures (reads_logical _ _ e _ c.peek-after.ensures c.if-here-eq-NOT.true far)

pub overflow_sub-here : goal.overflow_sub-here
overflow_sub-here c =
    let short : (let a = c.args in
    Here a.tokens.now a.at c.peek-here.result 262149 262151 × (a.carry.relation ≡ 0 → ⊥)) = (short_here _ _ _ _ _ _ c.peek-here.ensures (omega arith) (c.is_order-2.ensures ∙ order-within _) c.if-is_order-relation-2.true) in
    omega (arith, short.0)

pub read_object-requires-then-is_order-relation-2 : goal.read_object-requires-then-is_order-relation-2
read_object-requires-then-is_order-relation-2 c =
    let short : (let a = c.args in
    Here a.tokens.now a.at c.peek-here.result 262149 262151 × (a.carry.relation ≡ 0 → ⊥)) = (short_here _ _ _ _ _ _ c.peek-here.ensures (omega arith) (c.is_order-2.ensures ∙ order-within _) c.if-is_order-relation-2.true) in
    omega (arith, short.0)

pub returns-then-is_order-relation-2 : goal.returns-then-is_order-relation-2
returns-then-is_order-relation-2 c =
    let short : (let a = c.args in
    Here a.tokens.now a.at c.peek-here.result 262149 262151 × (a.carry.relation ≡ 0 → ⊥)) = (short_here _ _ _ _ _ _ c.peek-here.ensures (omega arith) (c.is_order-2.ensures ∙ order-within _) c.if-is_order-relation-2.true) in
    let e = c.peek-here.ensures in
    let a = c.args in
    let ((l, h, i), n) = short in
    reads_on _ 1 _ _ _ 1 _ c.read_object-then-is_order-relation-2.result
    (part_short _ _ e a.carry c.if-here.false c.if-here-2.false c.if-here-eq-NOT.false n l h)
    (omega arith) (omega arith) c.read_object-then-is_order-relation-2.ensures.reads

pub returns : goal.returns
returns c =
    let e = c.peek-here.ensures in
    let a = c.args in
    let far = no_short _ _ _ _ (c.is_order-2.ensures ∙ order-within _) c.if-is_order-relation-2.false in
    reads_on _ 1 _ _ _ 1 _ c.read_simple.result
    (part_other _ _ e a.carry c.if-here.false c.if-here-2.false c.if-here-eq-NOT.false far)
    (omega arith) (omega arith) c.read_simple.ensures.reads
