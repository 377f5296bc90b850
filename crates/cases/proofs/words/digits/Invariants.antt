-- `digits` meets its contract.
use Rattle.std.proofs.Common.{◌≡◌, drop}
use Rattle.cases.specs.Words.{digits_from}
use Rattle.cases.proofs.words.digits.Given as goal

abbrev pub invariant-loop-byte : goal.invariant-loop-byte
invariant-loop-byte l = digits_from l.radix l.value (drop l.byte-index l.text) ≡ digits_from l.radix 0 l.text
