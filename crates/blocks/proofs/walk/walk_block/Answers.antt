-- From row to row.
-- what is lent, and what each row needs of it
-- the row is judged, and each record that stands there goes on
use mathlib.Core.Path.{◌≡◌, refl, ◌∙◌}
use mathlib.Core.List.{List}
use Prim.Native.Nat.{ℕ, ◌-◌, ◌<◌, ◌≤◌}
use native.Mathlib.Omega.{arith}
use Rattle.std.proofs.lemmas.Grind.{common_steps}
use Rattle.tables.specs.Operands.{Lent, lend_names}
use Rattle.grammar.specs.Plan.{plan_row, plan_rows}
use Rattle.grammar.proofs.Sure.{Sure}
use Rattle.blocks.proofs.Standing.{placed}
use Rattle.blocks.proofs.Walking.{Walking, few_rows, known-row, judgeable, begins, onward, ends}
use Rattle.blocks.proofs.walk.walk_block.Goals as goal

pub overflow_cast-rows : goal.overflow_cast-rows
overflow_cast-rows c =
    let lent : (Lent) = (lend_names c.args.items.now c.args.literals.now c.args.bytes.now c.args.names.now) in
    let few : (plan_rows c.args.plan.now ≤ 128) = (few_rows lent c.args.plan.now c.args.records.now c.args.block.from c.args.block.size c.args.block.n c.args.switches c.requires.walkable) in
    omega (arith, few)

pub loop-row-init : goal.loop-row-init
loop-row-init c = (
  refl,
  (c.start.auto.at ∙ c.requires.at_len.0, c.fill.auto.numbers ∙ c.requires.at_len.1, refl),
  begins _ _ _ _ _ _ _ c.requires.walkable c.start.ensures c.fill.ensures c.least-row.ensures,
)

pub judge_row-requires : goal.judge_row-requires
judge_row-requires c =
    let lent : (Lent) = (lend_names c.args.items.now c.args.literals.now c.args.bytes.now c.args.names.now) in
    let under : (c.loop-row.row < plan_rows c.args.plan.now) = (omega (arith, c.loop-row.invariant.0, c.loop-row-test.true)) in
    let row_is : (c.plan_row-condition.result ≡ plan_row c.args.plan.now c.loop-row.row) = c.plan_row-condition.ensures in
    let a = c.args in record {
      judgeable = rw row_is (judgeable lent a.plan.now a.records.now a.block.from a.block.size a.block.n a.switches c.requires.walkable under);
      at_len = (c.loop-row.invariant.1.0, c.loop-row.invariant.1.2);
    }

pub place_of-holds-requires : goal.place_of-holds-requires
place_of-holds-requires c =
    let lent : (Lent) = (lend_names c.args.items.now c.args.literals.now c.args.bytes.now c.args.names.now) in
    let few : (plan_rows c.args.plan.now ≤ 128) = (few_rows lent c.args.plan.now c.args.records.now c.args.block.from c.args.block.size c.args.block.n c.args.switches c.requires.walkable) in
    let under : (c.loop-row.row < plan_rows c.args.plan.now) = (omega (arith, c.loop-row.invariant.0, c.loop-row-test.true)) in
    let known : (Sure lent (plan_rows c.args.plan.now) c.loop-row.row (plan_row c.args.plan.now c.loop-row.row)) = (known-row lent c.args.plan.now c.args.records.now c.args.block.from c.args.block.size c.args.block.n c.args.switches c.requires.walkable under) in
    let row_is : (c.plan_row-condition.result ≡ plan_row c.args.plan.now c.loop-row.row) = c.plan_row-condition.ensures in
    rw row_is (placed few known.holds)

pub place_of-fails-requires : goal.place_of-fails-requires
place_of-fails-requires c =
    let lent : (Lent) = (lend_names c.args.items.now c.args.literals.now c.args.bytes.now c.args.names.now) in
    let few : (plan_rows c.args.plan.now ≤ 128) = (few_rows lent c.args.plan.now c.args.records.now c.args.block.from c.args.block.size c.args.block.n c.args.switches c.requires.walkable) in
    let under : (c.loop-row.row < plan_rows c.args.plan.now) = (omega (arith, c.loop-row.invariant.0, c.loop-row-test.true)) in
    let known : (Sure lent (plan_rows c.args.plan.now) c.loop-row.row (plan_row c.args.plan.now c.loop-row.row)) = (known-row lent c.args.plan.now c.args.records.now c.args.block.from c.args.block.size c.args.block.n c.args.switches c.requires.walkable under) in
    let row_is : (c.plan_row-condition.result ≡ plan_row c.args.plan.now c.loop-row.row) = c.plan_row-condition.ensures in
    rw row_is (placed few known.fails)

pub loop-row-smaller : goal.loop-row-smaller
loop-row-smaller c =
    let lent : (Lent) = (lend_names c.args.items.now c.args.literals.now c.args.bytes.now c.args.names.now) in
    let Here : (List ℕ → List ℕ → ℕ → Type 0) = (λ at counts row. Walking lent c.args.plan.now c.args.records.now c.args.block.from c.args.block.size c.args.block.n c.args.switches at counts row) in
    let under : (c.loop-row.row < plan_rows c.args.plan.now) = (omega (arith, c.loop-row.invariant.0, c.loop-row-test.true)) in
    let row_is : (c.plan_row-condition.result ≡ plan_row c.args.plan.now c.loop-row.row) = c.plan_row-condition.ensures in
    let goes_on : ((c.loop-row.row < c.least-row-in-loop-row.result)
    × Here c.advance.new.at c.advance.new.counts c.least-row-in-loop-row.result) = (let a = c.args in
    let l = c.loop-row in
    let e = row_is in
    let judged = c.judge_row in
    let went = c.advance in
    let holds = c.place_of-holds.ensures in
    let fails = c.place_of-fails.ensures in
    onward lent a.plan.now a.records.now a.block.from a.block.size a.block.n a.switches c.requires.walkable l.at l.counts
    judged.new.truths went.new.at went.new.counts l.row c.least-row-in-loop-row.result l.invariant.2
    under (rw e at judged.ensures) (rw (holds, fails, e) at went.ensures.by_index) went.ensures.by_index_2 c.least-row-in-loop-row.ensures) in
    omega (arith, goes_on.0, c.least-row-in-loop-row.ensures.most)

pub loop-row-preserved : goal.loop-row-preserved
loop-row-preserved c =
    let lent : (Lent) = (lend_names c.args.items.now c.args.literals.now c.args.bytes.now c.args.names.now) in
    let Here : (List ℕ → List ℕ → ℕ → Type 0) = (λ at counts row. Walking lent c.args.plan.now c.args.records.now c.args.block.from c.args.block.size c.args.block.n c.args.switches at counts row) in
    let under : (c.loop-row.row < plan_rows c.args.plan.now) = (omega (arith, c.loop-row.invariant.0, c.loop-row-test.true)) in
    let row_is : (c.plan_row-condition.result ≡ plan_row c.args.plan.now c.loop-row.row) = c.plan_row-condition.ensures in
    let goes_on : ((c.loop-row.row < c.least-row-in-loop-row.result)
    × Here c.advance.new.at c.advance.new.counts c.least-row-in-loop-row.result) = (let a = c.args in
    let l = c.loop-row in
    let e = row_is in
    let judged = c.judge_row in
    let went = c.advance in
    let holds = c.place_of-holds.ensures in
    let fails = c.place_of-fails.ensures in
    onward lent a.plan.now a.records.now a.block.from a.block.size a.block.n a.switches c.requires.walkable l.at l.counts
    judged.new.truths went.new.at went.new.counts l.row c.least-row-in-loop-row.result l.invariant.2
    under (rw e at judged.ensures) (rw (holds, fails, e) at went.ensures.by_index) went.ensures.by_index_2 c.least-row-in-loop-row.ensures) in
    let kept = c.advance.auto in
    let judged = c.judge_row.auto.truths in
    let i = c.loop-row.invariant in
    (i.0, (kept.at ∙ i.1.0, kept.counts ∙ i.1.1, judged ∙ i.1.2), goes_on.1)

pub returns : goal.returns
returns c =
    let lent : (Lent) = (lend_names c.args.items.now c.args.literals.now c.args.bytes.now c.args.names.now) in
    let a = c.args in
    let l = c.loop-row in
    ends lent a.plan.now a.records.now a.block.from a.block.size a.block.n a.switches c.requires.walkable l.invariant.2 (omega (arith, l.invariant.0, c.loop-row-test.false))
