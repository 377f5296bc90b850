-- The first item that has the byte is found where it stands.
use Rattle.std.proofs.Common.{◌≡◌, ◌+◌, ◌-◌, ◌<◌, sym, ◌∙◌, arith, le-ltb}
use Rattle.tables.specs.Rows.{row_count}
use Rattle.logbook_program.specs.Worded.{first_with}
use Rattle.logbook_program.proofs.Naming.{item_here, group_here, other_here, none_has}
use Rattle.logbook_program.proofs.wording.item_with.Goals as goal
use Rattle.logbook_program.proofs.wording.item_with.Goals.{then-not-is_group+else-holds, else-not-is_group}

pub returns-then-holds : goal.returns-then-holds
returns-then-holds c =
    let items = c.args.items.now in
    let at_row = c.row_at-row.ensures in
    let no_group = sym c.is_group.ensures ∙ c.if-not-is_group.true in
    let here = item_here items c.args.byte (row_count items) c.loop-v.v (omega arith) (rw at_row at no_group)
    (rw at_row at (sym c.holds.ensures ∙ c.if-holds.true)) in
    rw (le-ltb 64 (row_count items) c.if-count-gt64.false) (here ∙ c.loop-v.invariant)

pub loop-v-preserved : goal.loop-v-preserved
loop-v-preserved c =
    let items = c.args.items.now in
    let byte = c.args.byte in
    let count = row_count items in
    let v = c.loop-v.v in
    let going : v < count = omega arith in
    let at_row = c.row_at-row.ensures in
    let g = c.is_group.ensures in
    let next : first_with items byte (v + 1) (count - (v + 1)) ≡ first_with items byte v (count - v) = elim c.if-not-is_group.branch [
      | then-not-is_group+else-holds w ↦ other_here items byte count v going (rw at_row at (sym g ∙ w.if-not-is_group.true)) (rw at_row at (sym w.holds.ensures ∙ w.if-holds.false))
      | else-not-is_group w ↦ group_here items byte count v going (rw at_row at (sym g ∙ w.if-not-is_group.false))
    ] in
    next ∙ c.loop-v.invariant

pub returns : goal.returns
returns c =
    let items = c.args.items.now in
    rw (le-ltb 64 (row_count items) c.if-count-gt64.false) (none_has items c.args.byte (row_count items) c.loop-v.v (omega arith) ∙ c.loop-v.invariant)
