-- `either` meets its contract: from the laws of proofs/ and what its callees ensure. Assumes nothing.
use Rattle.keywords.proofs.Initials.{one_word, both_lists}
use Rattle.keywords.proofs.either.Goals as goal

pub returns : goal.returns
returns c =
    let w = c.args.w.now in
    both_lists w _ _ _ _ (one_word w _ _ c.same_bytes.ensures) (one_word w _ _ c.same_bytes-2.ensures)
