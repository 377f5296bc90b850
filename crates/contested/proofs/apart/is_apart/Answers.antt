use mathlib.Core.Path.{◌≡◌, ap₂, ◌∙◌}
use mathlib.Core.Bool.{false}
use Rattle.tables.specs.Rows.{is_group, part}
use Rattle.items.specs.Items.{same}
use Rattle.copies.proofs.Choosing.{apart_flags}
use Rattle.contested.proofs.apart.is_apart.Goals as goal

pub returns : goal.returns
returns c =
    let a = c.args in
    let g : is_group a.row ≡ false = cc in
    rw g
    (apart_flags (part a.row a.old.now) (part a.row a.first.now) (part a.row a.second.now)
    (c.same_bytes.ensures ∙ ap₂ same c.row_part-one.ensures c.row_part-was.ensures)
    (c.same_bytes-2.ensures ∙ ap₂ same c.row_part-other.ensures c.row_part-was.ensures)
    (c.same_bytes-3.ensures ∙ ap₂ same c.row_part-one.ensures c.row_part-other.ensures))
