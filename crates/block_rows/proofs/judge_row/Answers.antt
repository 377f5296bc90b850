-- By the kind of row.
use mathlib.Core.Bool.{not, true}
use lib.Dec.{eqb}
use borrow.Author.Tests.{eqb-true, not-true}
use Rattle.tables.specs.Operands.{lend_names}
use Rattle.tables.proofs.Tests.{both}
use Rattle.block_truths.proofs.Firsts.{first_readable}
use Rattle.block_rows.proofs.Judging.{once}
use Rattle.block_rows.proofs.judge_row.Goals as goal

pub judge_record-truth-requires : goal.judge_record-truth-requires
judge_record-truth-requires c = first_readable c.requires.judgeable

pub returns-then-relation-subject : goal.returns-then-relation-subject
returns-then-relation-subject c =
    let a = c.args in
    let t = both (eqb a.condition.relation 0) _ c.if-relation-subject.true in
    once (lend_names a.items.now a.literals.now a.bytes.now a.names.now) a.records.now a.block.from a.block.size a.block.n a.switches a.condition
    a.at.now a.row c.fill.new.numbers _ c.requires.judgeable.laid.few (eqb-true a.condition.relation 0 t.0) (not-true _ t.1)
    c.judge_record-truth.ensures c.fill.ensures
