-- `packed_at` meets its contract: from the laws of proofs/ and what its callees ensure. Assumes nothing.
use mathlib.Core.Path.{ap, ◌∙◌}
use Rattle.std.proofs.Common.{Ok}
use Rattle.std.proofs.lemmas.Result.{err_from_is_err_and}
use Rattle.description.specs.Stages.{after_packed, packed_at}
use Rattle.entries.specs.Entries.{cap_clauses}
use Rattle.entries.proofs.clauses.packed_at.Goals as goal

pub returns : goal.returns
unfolding packed_at
returns c =
    ap Ok (c.ended.ensures ∙ rw c.packed_kind.ensures)
    ∙ ap (λ x. cap_clauses (after_packed c.args.signed c.args.i c.args.j x)) c.in_ok-end.ensures

pub returns-in_err-end : goal.returns-in_err-end
unfolding packed_at
returns-in_err-end c =
    let p = err_from_is_err_and c.from_residual.result c.from_residual.ensures.1 in
    rw (p.1, p.2) (ap (λ x. cap_clauses (after_packed c.args.signed c.args.i c.args.j x)) c.in_err-end.ensures)
