-- What `token_there` ensures, and the laws of a loop that seeks the first place that fails a test.
use mathlib.Core.Bool.{not}
use mathlib.Core.Path.{ap}
use Prim.Native.Nat.{◌-◌}
use Rattle.tables.specs.Tokens.{token_there}
use Rattle.tables.proofs.Lines.{passed_more, failed_at, passed_all}
use Rattle.token_checks.proofs.tokens.check_tokens.Goals as goal

pub returns-then-not-token_there : goal.returns-then-not-token_there
returns-then-not-token_there c =
    failed_at c.loop-i.invariant c.loop-i-test.true c.token_there.ensures (ap not c.if-not-token_there.true)

pub loop-i-preserved : goal.loop-i-preserved
loop-i-preserved c =
    passed_more c.loop-i.invariant c.loop-i-test.true c.token_there.ensures (ap not c.if-not-token_there.false)

pub returns : goal.returns
returns c = passed_all c.loop-i.invariant c.loop-i-test.false
