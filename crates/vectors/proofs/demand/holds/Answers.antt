-- A plan that is written is kept.
use Rattle.vectors.proofs.Keeping.{kept}
use Rattle.vectors.proofs.demand.holds.Goals as goal

pub returns-in-Ok : goal.returns-in-Ok
returns-in-Ok c =
    rw c.front.ensures at c.of_plan.ensures
    (kept c.args.words.now c.args.bytes.now c.args.record.now (rw c.part.ensures at c.plan-planned.ensures) c.in-Ok.is)
