-- `all_two_digits` meets its contract. The loop's invariant: `fine` says whether the bytes that were passed hold two digits each. Assumes nothing.
use mathlib.Core.Path.{◌≡◌}
use lib.ListN.{take}
use Rattle.content.specs.Content.{all}
use Rattle.content.specs.Packed.{two_digits}
use Rattle.packed.proofs.halves.all_two_digits.Given as goal

abbrev pub invariant-loop-b : goal.invariant-loop-b
invariant-loop-b l = l.fine ≡ all two_digits (take l.b-index l.bytes)
