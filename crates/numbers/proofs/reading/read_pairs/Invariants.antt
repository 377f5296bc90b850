-- Rests on the invariant that `fine` and `n` say of the bytes that were passed what they shall say of all, and on the room that n leaves.
use mathlib.Core.Path.{◌≡◌}
use lib.ListN.{take}
use Rattle.content.specs.Content.{all}
use Rattle.content.specs.Packed.{two_digits, packed_from}
use Rattle.numbers.proofs.reading.read_pairs.Given as goal

abbrev pub invariant-loop-b : goal.invariant-loop-b
invariant-loop-b l = (l.fine ≡ all two_digits (take l.b-index l.bytes)) × (l.n ≡ packed_from 0 (take l.b-index l.bytes))
