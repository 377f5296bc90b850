-- The loop's invariant: the first wrong byte is the first from `at` on, so that there is a byte `at`.
use Prim.Native.Nat.{◌+◌, ◌-◌}
use mathlib.Core.Path.{refl, sym, ap, ◌∙◌}
use lib.ListN.{length}
use Rattle.content.specs.WrongByte.{right_at, nowhere}
use Rattle.content.proofs.WrongByte.{wrong_then, some_left, some_wrong}
use Rattle.fields.proofs.held.first_wrong.Goals as goal

pub loop-row-init : goal.loop-row-init
loop-row-init c =
    let a = c.args in
    (some_left (right_at a.row.kind a.row.digits (length a.bytes.now)) a.bytes.now 0 (some_wrong a.row.kind a.row.digits a.bytes.now c.requires), refl)

pub loop-row-preserved : goal.loop-row-preserved
loop-row-preserved c =
    let l = c.loop-row in
    let bytes = c.args.bytes.now in
    let right = right_at c.args.row.kind c.args.row.digits (length bytes) in
    let next = l.invariant.1 ∙ wrong_then right bytes l.at l.invariant.0 (sym c.is_right.ensures ∙ c.loop-row-test.true) in
    (some_left right bytes (l.at + 1) (sym (ap nowhere next) ∙ some_wrong c.args.row.kind c.args.row.digits bytes c.requires), next)

pub returns : goal.returns
returns c =
    let l = c.loop-row in
    let bytes = c.args.bytes.now in
    l.invariant.1 ∙ wrong_then (right_at c.args.row.kind c.args.row.digits (length bytes)) bytes l.at l.invariant.0 (sym c.is_right.ensures ∙ c.loop-row-test.false)
