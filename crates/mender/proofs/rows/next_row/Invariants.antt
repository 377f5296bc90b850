use Rattle.mender.proofs.Nearing.{Nearest}
use Rattle.mender.proofs.rows.next_row.Given as goal

abbrev pub invariant-loop-v : goal.invariant-loop-v
invariant-loop-v l = Nearest l.items l.at l.rows l.v l.best l.nearest
