-- The laws of a whole sequence, at each return.
use native.Mathlib.Omega.{arith}
use Rattle.std.proofs.lemmas.Result.{err_from_is_err_and}
use Rattle.parser.proofs.Steps.{whole_stuck, whole_part, whole_read}
use Rattle.parser.proofs.cycle.parse.Goals as goal

pub returns-in_err-whole : goal.returns-in_err-whole
returns-in_err-whole c = let q = err_from_is_err_and c.from_residual.result c.from_residual.ensures.1 in rw (q.1, q.2) (whole_stuck c.in_err-whole.ensures)

pub returns-then-whole-tokens : goal.returns-then-whole-tokens
returns-then-whole-tokens c = whole_part c.in_ok-whole.ensures (omega arith) c.if-whole-tokens.true

pub returns : goal.returns
returns c = whole_read c.in_ok-whole.ensures c.if-whole-tokens.false
