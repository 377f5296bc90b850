-- `one_of_four` meets its contract: from the laws of proofs/ and what its callees ensure. Assumes nothing.
use Rattle.keywords.proofs.Initials.{both_lists}
use Rattle.keywords.proofs.one_of_four.Goals as goal

pub returns : goal.returns
returns c = both_lists c.args.w.now _ _ _ _ c.either.ensures c.either-2.ensures
