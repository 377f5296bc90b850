use Rattle.plans.proofs.Buffer.{added}
use Rattle.plans.proofs.rows.put_row.Goals as goal

pub returns : goal.returns
returns c = added c.args.row c.args.rows.now c.args.subject c.args.relation c.args.object c.requires.0 c.requires.1
