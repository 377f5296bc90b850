-- `read_within` meets its contract: from the laws of proofs/ and what its callees ensure. Assumes nothing.
use Rattle.descriptions.proofs.Answers.{within_whole, within_rest}
use Rattle.descriptions.proofs.calls.read_within.Goals as goal

pub returns-then-found-end : goal.returns-then-found-end
returns-then-found-end c =
    within_whole c.args.text.now _ _ _ _ c.read_entries-found.result c.readable-end.ensures
    c.read_entries-found.ensures.read_by c.if-found-end.true

pub returns : goal.returns
returns c =
    within_rest c.args.text.now _ _ _ _ c.read_entries-found.result c.readable-end.ensures
    c.read_entries-found.ensures.read_by c.if-found-end.false
