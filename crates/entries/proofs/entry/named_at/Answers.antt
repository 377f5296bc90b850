-- `named_at` meets its contract: from the laws of proofs/ and what its callees ensure. Assumes nothing.
use Prim.Native.Nat.{◌-◌, ◌+◌}
use mathlib.Core.Path.{ap, ◌∙◌}
use native.Mathlib.Omega.{arith}
use Rattle.std.proofs.Common.{Ok}
use Rattle.entries.proofs.Branches.{known}
use Rattle.text_bytes.proofs.Laws.{ink_within}
use Rattle.entries.proofs.Bounds.{Names, name_reaches}
use Rattle.entries.proofs.entry.named_at.Goals as goal

pub narrow-named-requires : goal.narrow-named-requires
narrow-named-requires c = omega (arith, ink_within _ _ _ c.next_ink.ensures c.requires.0, c.requires.1)

pub item_at-requires : goal.item_at-requires
item_at-requires c = (
  (known (Names c.args.text.now (c.args.p + 2)) c.name_at.ensures (c.in_ok-k.was ∙ ap Ok c.in-Item.is)
      (name_reaches c.args.text.now (c.args.p + 2) c.requires.0 c.args.level)).1,
  c.requires.1,
)
