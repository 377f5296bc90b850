-- `side_clause` meets its contract: from the laws of proofs/ and what its callees ensure. Assumes nothing.
use Rattle.entries.proofs.Branches.{known}
use Rattle.entries.proofs.Bounds.{SidesAt, side_reaches}
use Rattle.entries.proofs.clauses.side_clause.Goals as goal

pub separate-requires : goal.separate-requires
separate-requires c =
    ((known (SidesAt c.args.text.now c.args.n) c.side_at.ensures c.in_ok-side.was (side_reaches c.args.text.now c.args.n c.requires.0)).1.1, c.requires.1)
