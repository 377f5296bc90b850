-- `usage_at` meets its contract: from the laws of proofs/ and what its callees ensure. Assumes nothing.
use Rattle.entries.proofs.Branches.{sign_is, packed_is}
use Rattle.entries.proofs.clauses.usage_at.Goals as goal

pub returns-then-signed-byte_at : goal.returns-then-signed-byte_at
returns-then-signed-byte_at c =
    let a = c.args in
    sign_is a.signed a.i a.j a.text.now a.n c.next_ink-p.ensures c.byte_at.ensures c.if-signed-byte_at.true
    c.sign_at.ensures

pub returns-else-signed-byte_at : goal.returns-else-signed-byte_at
returns-else-signed-byte_at c =
    let a = c.args in
    packed_is a.signed a.i a.j a.text.now a.n c.next_ink-p.ensures c.byte_at.ensures c.if-signed-byte_at.false
    c.packed_at.ensures
