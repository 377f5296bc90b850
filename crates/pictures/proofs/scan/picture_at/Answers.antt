-- `picture_at` meets its contract: from the laws of proofs/ and what its callees ensure. Assumes nothing.
use Prim.Native.Nat.{◌-◌, ◌≤◌}
use native.Mathlib.Omega.{arith}
use lib.ListN.{length, take, drop}
use Rattle.std.proofs.lemmas.Grind.{common_steps}
use Rattle.text_bytes.proofs.Laws.{ink_within}
use Rattle.pictures.proofs.Caps.{picture_some, sketch_small, sketch_le}
use Rattle.pictures.proofs.scan.picture_at.Goals as goal

pub slice_bounds-sketched-count : goal.slice_bounds-sketched-count
slice_bounds-sketched-count c =
    let begins : (c.next_ink-p.result ≤ length c.args.text.now) = (ink_within _ _ _ c.next_ink-p.ensures c.requires.0) in
    begins

pub slice_bounds-sketched-start : goal.slice_bounds-sketched-start
slice_bounds-sketched-start c =
    let begins : (c.next_ink-p.result ≤ length c.args.text.now) = (ink_within _ _ _ c.next_ink-p.ensures c.requires.0) in
    begins

pub overflow_add-k : goal.overflow_add-k
overflow_add-k c =
    let begins : (c.next_ink-p.result ≤ length c.args.text.now) = (ink_within _ _ _ c.next_ink-p.ensures c.requires.0) in
    omega (arith, sketch_le c.args.text.now c.next_ink-p.result begins c.sketched-s.ensures)

pub drawn_end-requires : goal.drawn_end-requires
drawn_end-requires c =
    let begins : (c.next_ink-p.result ≤ length c.args.text.now) = (ink_within _ _ _ c.next_ink-p.ensures c.requires.0) in
    let text = c.args.text.now in
    let p = c.next_ink-p.result in
    let drawn = c.sketched-s.ensures in
    (sketch_small (take (length text - p) (drop p text)) drawn, omega (arith, sketch_le text p begins drawn, c.requires.1))

pub returns : goal.returns
returns c =
    picture_some c.args.text.now c.args.n c.next_ink-p.result c.sketched-s.result c.period_at.result
    c.next_ink-p.ensures c.if-p-n.false c.sketched-s.ensures c.period_at.ensures c.drawn_end.ensures
