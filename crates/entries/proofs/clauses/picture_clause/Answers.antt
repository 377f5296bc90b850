-- `picture_clause` meets its contract: from the laws of proofs/ and what its callees ensure. Assumes nothing.
use mathlib.Core.Path.{ap, ◌∙◌}
use Rattle.std.proofs.Common.{Ok}
use Rattle.description.specs.Stages.{picture_at}
use Rattle.entries.proofs.Branches.{number_is, number_small}
use Rattle.entries.proofs.Bounds.{number_le, picture_draws}
use Rattle.entries.proofs.clauses.picture_clause.Goals as goal

pub usage_at-requires : goal.usage_at-requires
usage_at-requires c =
    let text = c.args.text.now in
    let n = c.args.n in
    let i = c.in_ok-x.was ∙ ap Ok c.in-Number.is in (
      number_le text n (picture_at text n) c.picture_at.ensures i (picture_draws text n c.requires.0),
      number_small (picture_at text n) c.picture_at.ensures i,
    )

pub returns-in-Number : goal.returns-in-Number
returns-in-Number c =
    number_is c.args.text.now (picture_at c.args.text.now c.args.n) c.picture_at.ensures (c.in_ok-x.was ∙ ap Ok c.in-Number.is) c.usage_at.ensures
