-- One record after the other.
use mathlib.Core.Path.{ap, ap₂, ◌∙◌}
use mathlib.Core.Bool.{cond}
use mathlib.Core.List.{List}
use Prim.Native.Nat.{ℕ, ◌<◌}
use native.Mathlib.Omega.{arith}
use Rattle.std.proofs.lemmas.Grind.{common_steps}
use Rattle.tables.specs.Rows.{part}
use Rattle.values.specs.Comparison.{side}
use Rattle.values.specs.Truth.{relation_outcome}
use Rattle.block_truths.proofs.Passing.{tells, leaves, at_place, off_place, all_told}
use Rattle.record_fields.proofs.Fitting.{right_for, at_record, item_inside}
use Rattle.record_fields.proofs.relate_each.Goals as goal
use Rattle.record_fields.proofs.relate_each.Goals.{then-at-j, else-at-j}

pub side_bytes-first-requires : goal.side_bytes-first-requires
side_bytes-first-requires c =
    λ i. let l = c.loop-j in
    let a = c.args in
    rw (at_record a.records.now a.block.from a.block.size l.j l.invariant.starts) (item_inside a.item1 a.row1 _ a.left.now (c.requires.by_index l.j
    (omega arith)).0 i)

pub side_bytes-second-requires : goal.side_bytes-second-requires
side_bytes-second-requires c =
    λ i. let l = c.loop-j in
    let a = c.args in
    rw (at_record a.records.now a.block.from a.block.size l.j l.invariant.starts) (item_inside a.item2 a.row2 _ a.right.now (c.requires.by_index l.j
    (omega arith)).1 i)

pub side_truth-requires : goal.side_truth-requires
side_truth-requires c =
    let l = c.loop-j in
    let a = c.args in
    let f = c.requires.by_index l.j (omega arith) in
    rw (c.side_bytes-first.ensures, c.side_bytes-second.ensures, at_record a.records.now a.block.from a.block.size l.j l.invariant.starts) (f.0, f.1, c.requires.laid.3)

pub loop-j-preserved : goal.loop-j-preserved
loop-j-preserved c =
    let l = c.loop-j in
    let a = c.args in
    let here = at_record a.records.now a.block.from a.block.size l.j l.invariant.starts in
    let turn : l.j < a.block.n = omega arith in
    elim c.if-at-j.branch [
      | then-at-j w ↦
          rw w.truths-is (tells c.requires.laid.0 c.requires.laid.2 l.invariant turn (at_place w.if-at-j.true (right_for
          (ap₂ (λ (x y : List ℕ). relation_outcome a.word a.negated (side a.item1 a.row1 x) (side a.item2 a.row2 y))
          (w.side_bytes-first.ensures ∙ ap (λ (x : List ℕ). cond a.item1 (part a.row1 x) a.left.now) here)
          (w.side_bytes-second.ensures ∙ ap (λ (x : List ℕ). cond a.item2 (part a.row2 x) a.right.now) here))
          w.side_truth.ensures)))
      | else-at-j w ↦
          rw w.truths-is (leaves c.requires.laid.0 c.requires.laid.2 l.invariant turn (off_place w.if-at-j.false))
    ]

pub returns : goal.returns
returns c = all_told c.loop-j.invariant (omega arith)
