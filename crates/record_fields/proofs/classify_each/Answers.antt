-- One record after the other.
use mathlib.Core.Path.{ap, ◌∙◌}
use mathlib.Core.Bool.{Bool, true}
use Prim.Native.Nat.{◌<◌}
use native.Mathlib.Omega.{arith}
use Rattle.std.proofs.lemmas.Grind.{common_steps}
use Rattle.tables.specs.Rows.{part}
use Rattle.compare.specs.Classes.{class_holds}
use Rattle.values.specs.Truth.{truth, turned}
use Rattle.values.proofs.Reading.{some_bytes}
use Rattle.block_truths.proofs.Passing.{tells, leaves, at_place, off_place, all_told}
use Rattle.record_fields.proofs.Fitting.{right_for, at_record}
use Rattle.record_fields.proofs.classify_each.Goals as goal
use Rattle.record_fields.proofs.classify_each.Goals.{then-at-j, else-at-j}

pub class_holds-holds-requires : goal.class_holds-holds-requires
class_holds-holds-requires c =
    let l = c.loop-j in
    let a = c.args in
    rw (c.row_part-bytes.ensures, at_record a.records.now a.block.from a.block.size l.j l.invariant.starts) (some_bytes (c.requires.by_index l.j (omega arith)))

pub loop-j-preserved : goal.loop-j-preserved
loop-j-preserved c =
    let l = c.loop-j in
    let a = c.args in
    let here = at_record a.records.now a.block.from a.block.size l.j l.invariant.starts in
    let turn : l.j < a.block.n = omega arith in
    elim c.if-at-j.branch [
      | then-at-j w ↦
          rw w.truths-is (tells c.requires.laid.0 c.requires.laid.2 l.invariant turn (at_place w.if-at-j.true (right_for
          (w.truth_value.ensures
          ∙ ap (λ (t : Bool). truth (turned a.negated t))
          (w.class_holds-holds.ensures ∙ ap (class_holds a.word a.row.kind a.row.digits) (w.row_part-bytes.ensures ∙ ap (part a.row) here)))
          w.truth_number.ensures)))
      | else-at-j w ↦
          rw w.truths-is (leaves c.requires.laid.0 c.requires.laid.2 l.invariant turn (off_place w.if-at-j.false))
    ]

pub returns : goal.returns
returns c = all_told c.loop-j.invariant (omega arith)
