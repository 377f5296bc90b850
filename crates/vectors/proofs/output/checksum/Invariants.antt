-- `checksum` meets its contract.
use Rattle.std.proofs.Common.{◌≡◌, drop}
use Rattle.vectors.specs.Sums.{sum_from, checksum_of}
use Rattle.vectors.proofs.output.checksum.Given as goal

abbrev pub invariant-loop-number : goal.invariant-loop-number
invariant-loop-number l = sum_from l.sum (drop l.number-index l.output) ≡ checksum_of l.output
