-- `spelled_at` meets its contract: from the laws of proofs/ and what its callees ensure. Assumes nothing.
use mathlib.Core.Path.{sym, ◌∙◌}
use Prim.Native.Nat.{◌≤◌}
use native.Mathlib.Omega.{arith}
use lib.ListN.{length}
use Rattle.text_bytes.proofs.Laws.{ink_within}
use Rattle.literal_spans.proofs.Shapes.{span_end, span_ended, span_open, span_point, span_fault}
use Rattle.literal_spans.proofs.spans.spelled_at.Goals as goal

pub slice_bounds-spell-count : goal.slice_bounds-spell-count
slice_bounds-spell-count c =
    let begins : (c.next_ink-p.result ≤ length c.args.text.now) = (ink_within _ _ _ c.next_ink-p.ensures c.requires) in
    begins

pub slice_bounds-spell-start : goal.slice_bounds-spell-start
slice_bounds-spell-start c =
    let begins : (c.next_ink-p.result ≤ length c.args.text.now) = (ink_within _ _ _ c.next_ink-p.ensures c.requires) in
    begins

pub overflow_add-k : goal.overflow_add-k
overflow_add-k c =
    let begins : (c.next_ink-p.result ≤ length c.args.text.now) = (ink_within _ _ _ c.next_ink-p.ensures c.requires) in
    omega (
      arith,
      span_end c.args.text.now c.args.n c.next_ink-p.result c.spell-span.result.length
          c.spell-span.result.state c.next_ink-p.ensures c.if-p-n.false c.spell-span.ensures.0 c.spell-span.ensures.1 begins,
    )

pub returns-then-period_at : goal.returns-then-period_at
returns-then-period_at c =
    span_ended c.args.text.now c.args.n c.next_ink-p.result c.spell-span.result.length c.spell-span.result.state
    c.next_ink-p.ensures c.if-p-n.false c.spell-span.ensures.0 c.spell-span.ensures.1 (sym c.is_whole.ensures ∙ c.if-is_whole.true) (sym
    c.period_at.ensures ∙ c.if-period_at.true)

pub returns-then-is_whole : goal.returns-then-is_whole
returns-then-is_whole c =
    span_open c.args.text.now c.args.n c.next_ink-p.result c.spell-span.result.length c.spell-span.result.state
    c.next_ink-p.ensures c.if-p-n.false c.spell-span.ensures.0 c.spell-span.ensures.1 (sym c.is_whole.ensures ∙ c.if-is_whole.true) (sym
    c.period_at.ensures ∙ c.if-period_at.false)

pub returns-then-span-eq3 : goal.returns-then-span-eq3
returns-then-span-eq3 c =
    span_point c.args.text.now c.args.n c.next_ink-p.result c.spell-span.result.length c.spell-span.result.state
    c.next_ink-p.ensures c.if-p-n.false c.spell-span.ensures.0 c.spell-span.ensures.1 (sym c.is_whole.ensures ∙ c.if-is_whole.false)
    c.if-span-eq3.true

pub returns : goal.returns
returns c =
    span_fault c.args.text.now c.args.n c.next_ink-p.result c.spell-span.result.length c.spell-span.result.state
    c.next_ink-p.ensures c.if-p-n.false c.spell-span.ensures.0 c.spell-span.ensures.1 (sym c.is_whole.ensures ∙ c.if-is_whole.false)
    c.if-span-eq3.false
