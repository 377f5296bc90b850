use lib.ListN.{length}
use Rattle.merging.specs.Merge.{merged_item}
use Rattle.copies.proofs.Choosing.{chosen_from}
use mathlib.Core.Path.{ap, ◌∙◌}
use native.Mathlib.Omega.{arith}
use Rattle.tables.specs.Rows.{part}
use Rattle.tables.proofs.Bytes.{part_length}
use Rattle.merging.proofs.OneItem.{merged_length}
use Rattle.copies.proofs.merge_row.Goals as goal

pub put_part-requires : goal.put_part-requires
put_part-requires c =
    let a = c.args in
    let pre = c.requires in
    let got = c.merged_item-item.ensures ∙ chosen_from a.verdict c.row_part.ensures c.row_part-2.ensures c.row_part-3.ensures
    in (
      ap length got ∙ merged_length a.verdict _ _ _ a.row.size (part_length a.row a.old.now pre.0) (part_length a.row a.first.now
          (omega (arith, pre))) (part_length a.row a.second.now (omega (arith, pre))),
      omega (arith, pre),
    )
