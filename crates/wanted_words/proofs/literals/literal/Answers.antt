-- `literal` meets its contract: from the laws of proofs/ and what its callees ensure. Assumes nothing.
use Prim.Native.Nat.{◌+◌, ◌≤◌}
use native.Mathlib.Omega.{arith}
use lib.ListN.{length}
use Rattle.text_bytes.proofs.Laws.{ink_within}
use Rattle.wanted_words.proofs.Laws.{common-within}
use Rattle.wanted_words.proofs.literals.literal.Goals as goal

pub slice_bounds-common_length-count : goal.slice_bounds-common_length-count
slice_bounds-common_length-count c = ink_within _ _ _ c.next_ink-p.ensures c.requires

pub slice_bounds-common_length-start : goal.slice_bounds-common_length-start
slice_bounds-common_length-start c = ink_within _ _ _ c.next_ink-p.ensures c.requires

pub overflow_add-result : goal.overflow_add-result
overflow_add-result c =
    let within : (c.next_ink-p.result + c.common_length-m.result ≤ length c.args.text.now) = (common-within _ _ _ _ _ c.next_ink-p.ensures c.common_length-m.ensures c.requires) in
    omega (arith, within)

pub overflow_add-result-else-m-word : goal.overflow_add-result-else-m-word
overflow_add-result-else-m-word c =
    let within : (c.next_ink-p.result + c.common_length-m.result ≤ length c.args.text.now) = (common-within _ _ _ _ _ c.next_ink-p.ensures c.common_length-m.ensures c.requires) in
    omega (arith, within)
