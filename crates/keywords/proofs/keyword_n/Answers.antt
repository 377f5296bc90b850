-- `keyword_n` meets its contract: from the laws of proofs/ and what its callees ensure. Assumes nothing.
use Rattle.keywords.proofs.Initials.{one_word, both_lists}
use Rattle.keywords.proofs.keyword_n.Goals as goal

pub returns : goal.returns
returns c = both_lists _ _ _ _ _ c.either.ensures (one_word _ _ _ c.same_bytes.ensures)
