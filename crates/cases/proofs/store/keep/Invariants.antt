-- `keep` meets its contract.
use Rattle.std.proofs.Common.{◌≡◌, drop}
use Rattle.cases.specs.Stores.{pushed_all}
use Rattle.cases.proofs.store.keep.Given as goal

abbrev pub invariant-loop-number : goal.invariant-loop-number
invariant-loop-number l = pushed_all l.store l.part (drop l.number-index l.numbers) ≡ pushed_all l.initial.store l.part l.numbers
