-- Five numbers are written over the start of the output.
use native.Mathlib.Omega.{arith}
use Rattle.tables.proofs.Front.{front_none, front_store}
use Rattle.grammar.specs.Plan.{flat}
use Rattle.plan_conversion.proofs.rows.write_row.Goals as goal

pub returns : goal.returns
unfolding flat
returns c =
    let row = c.args.row in
    let a = front_store (front_none c.args.out.now) row.subject (omega arith) in
    let b = front_store (front_store a row.relation (omega arith)) row.object (omega arith) in
    (front_store (front_store b row.holds (omega arith)) row.fails (omega arith)).holds
