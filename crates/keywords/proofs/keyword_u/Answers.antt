-- `keyword_u` meets its contract: from the laws of proofs/ and what its callees ensure. Assumes nothing.
use Rattle.keywords.proofs.Initials.{both_lists}
use Rattle.keywords.proofs.keyword_u.Goals as goal

pub returns : goal.returns
returns c = both_lists _ _ _ _ _ c.one_of_four.ensures c.one_of_four-2.ensures
