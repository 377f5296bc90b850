use mathlib.Core.Path.{sym}
use Rattle.simples.proofs.Classes.{test_within}
use Rattle.simples.proofs.words.is_test.Goals as goal

pub returns : goal.returns
returns c = sym (test_within c.args.token)
