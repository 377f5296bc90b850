-- `label_at` meets its contract: from the laws of proofs/ and what its callees ensure. Assumes nothing.
use native.Mathlib.Omega.{arith}
use Rattle.text_bytes.proofs.Laws.{ink_within}
use Rattle.words.proofs.Reaches.{name_within}
use Rattle.words.proofs.names.label_at.Goals as goal

pub slice_bounds-name_reach-count : goal.slice_bounds-name_reach-count
slice_bounds-name_reach-count c = ink_within _ _ _ c.next_ink-p.ensures c.requires

pub slice_bounds-name_reach-start : goal.slice_bounds-name_reach-start
slice_bounds-name_reach-start c = ink_within _ _ _ c.next_ink-p.ensures c.requires

pub overflow_add-k : goal.overflow_add-k
overflow_add-k c = omega (arith, name_within _ _ _ _ c.next_ink-p.ensures c.name_reach-m.ensures c.requires)

pub slice_bounds-is_name-end : goal.slice_bounds-is_name-end
slice_bounds-is_name-end c = name_within _ _ _ _ c.next_ink-p.ensures c.name_reach-m.ensures c.requires
