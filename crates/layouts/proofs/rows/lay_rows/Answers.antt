-- `lay_rows` meets its contract: from the laws of proofs/ and what its callees ensure. Assumes nothing.
use native.Mathlib.Omega.{arith}
use mathlib.Core.Path.{refl, sym, ◌∙◌}
use Rattle.layouts.specs.Layouts.{shown_row}
use Rattle.layouts.proofs.Laying.{lay_none, lay_over, lay_more, lay_end, not_over}
use Rattle.layouts.proofs.rows.lay_rows.Goals as goal

pub loop-i-init : goal.loop-i-init
loop-i-init c = lay_none c.args.entries.now c.args.n c.args.rows.now

pub returns-then-is_over : goal.returns-then-is_over
returns-then-is_over c = lay_over c.args.entries.now c.args.n c.loop-i.rows c.loop-i.offset c.loop-i.i
    c.loop-i.invariant (omega arith) c.row_of-row.ensures (sym c.is_over.ensures ∙ c.if-is_over.true) refl

pub loop-i-preserved : goal.loop-i-preserved
loop-i-preserved c =
    let kept = sym c.is_over.ensures ∙ c.if-is_over.false in
    rw c.store_row.ensures
    (lay_more c.args.entries.now c.args.n c.loop-i.rows c.loop-i.offset c.loop-i.i c.loop-i.invariant (omega arith)
    c.row_of-row.ensures kept (omega (arith, (not_over c.loop-i.i (shown_row c.row_of-row.result) kept).0, c.requires.1.1)) c.size_at-offset.ensures)

pub returns : goal.returns
returns c = lay_end c.args.entries.now c.args.n c.loop-i.rows c.loop-i.offset c.loop-i.i c.loop-i.invariant (omega arith)
