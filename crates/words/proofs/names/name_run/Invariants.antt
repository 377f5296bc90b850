-- `name_run` meets its contract: from the laws of proofs/ and what its callees ensure. Assumes nothing.
use Prim.Native.Nat.{◌-◌, ◌+◌}
use mathlib.Core.Path.{◌≡◌}
use lib.ListN.{drop}
use Rattle.words.specs.Runs.{name_run}
use Rattle.words.proofs.names.name_run.Given as goal

abbrev pub invariant-loop-k : goal.invariant-loop-k
invariant-loop-k l = name_run l.most l.rest ≡ l.k + name_run (l.most - l.k) (drop l.k l.rest)
