-- Rests on the sides of a record being those that are looked up, and on what `relate_each` ensures.
use mathlib.Core.Path.{ap₂}
use mathlib.Core.Bool.{◌&&◌}
use native.Mathlib.Omega.{arith}
use Rattle.std.proofs.lemmas.Grind.{common_steps}
use Rattle.tables.specs.Operands.{lend_names}
use Rattle.values.proofs.Reading.{read_relation}
use Rattle.block_truths.specs.Columns.{record_at}
use Rattle.block_truths.proofs.Firsts.{first_readable, within_unnamed}
use Rattle.block_truths.proofs.Passing.{retold_at}
use Rattle.record_fields.proofs.Fitting.{right_for}
use Rattle.field_rows.proofs.Fitting.{side_here, side_fits_lem, relation_is}
use Rattle.field_rows.proofs.rows.judge_relation.Goals as goal

pub row_of-row1-requires : goal.row_of-row1-requires
row_of-row1-requires c =
    (read_relation (first_readable c.requires.judgeable.0) c.requires.relation_value).0.within.there

pub row_of-row2-requires : goal.row_of-row2-requires
row_of-row2-requires c =
    (read_relation (first_readable c.requires.judgeable.0) c.requires.relation_value).1.within.there

pub operand_bytes-left-requires : goal.operand_bytes-left-requires
operand_bytes-left-requires c =
    within_unnamed (read_relation (first_readable c.requires.judgeable.0) c.requires.relation_value).0

pub operand_bytes-right-requires : goal.operand_bytes-right-requires
operand_bytes-right-requires c =
    within_unnamed (read_relation (first_readable c.requires.judgeable.0) c.requires.relation_value).1

pub relate_each-requires : goal.relate_each-requires
relate_each-requires c =
    let a = c.args in
    let lent = lend_names a.items.now a.literals.now a.bytes.now a.names.now in record {
      laid = (c.requires.judgeable.0.laid, c.requires.judgeable.1, c.requires.judgeable.2, ap₂ ◌&&◌ c.is_numeric.ensures c.is_numeric-2.ensures);
      by_index = (λ k l. let s = read_relation (c.requires.judgeable.0.readable k l) c.requires.relation_value in
          let content = record_at a.records.now a.block.from a.block.size k in (
            side_fits_lem lent _ content a.condition.subject c.is_item-item1.ensures c.row_of-row1.ensures c.operand_bytes-left.ensures
                s.0,
            side_fits_lem lent _ content a.condition.object c.is_item-item2.ensures c.row_of-row2.ensures c.operand_bytes-right.ensures
                s.1,
          ));
    }

pub returns : goal.returns
returns c =
    let a = c.args in
    let lent = lend_names a.items.now a.literals.now a.bytes.now a.names.now in
    retold_at c.relate_each.ensures
    (λ k l v. let content = record_at a.records.now a.block.from a.block.size k in
    right_for (relation_is lent content a.switches a.condition.subject a.condition.relation a.condition.object c.requires.relation_value
    (side_here lent _ content a.condition.subject c.is_item-item1.ensures c.row_of-row1.ensures c.operand_bytes-left.ensures)
    (side_here lent _ content a.condition.object c.is_item-item2.ensures c.row_of-row2.ensures c.operand_bytes-right.ensures)))
