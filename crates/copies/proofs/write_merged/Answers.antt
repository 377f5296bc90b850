use Prim.Native.Nat.{ℕ, ◌-◌}
use native.Mathlib.Omega.{arith}
use mathlib.Core.Path.{sym, ap, ◌∙◌}
use mathlib.Core.List.{List}
use mathlib.Core.Bool.{cond}
use lib.ListN.{length}
use Rattle.content.specs.declared.Row.{Row}
use Rattle.tables.specs.Rows.{row_at, part}
use Rattle.items.specs.Items.{is_elementary, replaced, rewritten}
use Rattle.merging.specs.Merge.{copies_of, merged_at, merged_item}
use Rattle.items.proofs.Rewriting.{rewritten_more}
use Rattle.copies.proofs.write_merged.Goals as goal

pub loop-v-init : goal.loop-v-init
unfolding rewritten
loop-v-init c = (omega arith, ap length c.copy_bytes.ensures, c.copy_bytes.ensures)

pub loop-v-preserved : goal.loop-v-preserved
loop-v-preserved c =
    let a = c.args in
    let turn = c.loop-v in
    let copies = copies_of a.items.now a.old.now a.first.now a.second.now in (
      omega arith,
      c.out-in-loop-v-1.given ∙ turn.invariant.1,
      c.merge_row.ensures ∙ ap (λ (r : Row). cond (is_elementary r) (replaced r
          (merged_item a.verdict (part r a.old.now) (part r a.first.now) (part r a.second.now)) turn.out) turn.out) c.row_at.ensures
          ∙ ap (λ (l : List ℕ). cond (is_elementary (row_at a.items.now turn.v)) (replaced (row_at a.items.now turn.v) ((merged_at copies a.verdict)
          turn.v) l) l) turn.invariant.2 ∙ sym (rewritten_more a.items.now (merged_at copies a.verdict) a.old.now turn.v),
    )
