-- `sign_at` meets its contract: from the laws of proofs/ and what its callees ensure. Assumes nothing.
use mathlib.Core.Path.{ap, ◌∙◌}
use Rattle.std.proofs.lemmas.Result.{err_from_is_err_and}
use Rattle.description.specs.Grammar.{bytes}
use Rattle.description.specs.Stages.{after_sign, sign_at}
use Rattle.entries.specs.Entries.{cap_clauses}
use Rattle.entries.proofs.Branches.{known}
use Rattle.entries.proofs.Bounds.{Reaches, literal_reaches}
use Rattle.entries.proofs.clauses.sign_at.Goals as goal

pub side_clause-requires : goal.side_clause-requires
side_clause-requires c =
    ((known (Reaches c.args.text.now c.args.n) c.literal.ensures c.in_ok-k.was (literal_reaches c.args.text.now c.args.n c.requires.0 (bytes "SIGN"))).1, c.requires.1)

pub returns : goal.returns
unfolding sign_at
returns c = c.side_clause.ensures ∙ ap (λ x. cap_clauses (after_sign c.args.text.now c.args.i c.args.j x)) c.in_ok-k.ensures

pub returns-in_err-k : goal.returns-in_err-k
unfolding sign_at
returns-in_err-k c =
    let p = err_from_is_err_and c.from_residual.result c.from_residual.ensures.1 in
    rw (p.1, p.2) (ap (λ x. cap_clauses (after_sign c.args.text.now c.args.i c.args.j x)) c.in_err-k.ensures)
