-- The token at a place, or the number past the last.
use mathlib.Core.Path.{sym}
use lib.ListN.{get_or-eq_default}
use Rattle.simples.specs.Reads.{tok}
use Rattle.simples.proofs.Looking.{get_d_within}
use Rattle.simples.proofs.words.peek.Goals as goal

pub returns-then-at-tokens : goal.returns-then-at-tokens
unfolding tok
returns-then-at-tokens c = get_d_within c.args.tokens.now c.args.at 0 4294967295 c.if-at-tokens.true

pub returns : goal.returns
unfolding tok
returns c = sym (get_or-eq_default c.args.tokens.now 4294967295 c.if-at-tokens.false)
