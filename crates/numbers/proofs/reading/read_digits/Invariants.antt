-- Rests on the invariant that `fine` and `n` say of the first i bytes what they shall say of all; after them there are eights, each told by its word.
use mathlib.Core.Path.{◌≡◌}
use Prim.Native.Nat.{◌-◌, ◌%◌, ◌≤◌}
use lib.ListN.{length, take}
use Rattle.content.specs.Content.{all, is_digit, number_from}
use Rattle.numbers.proofs.reading.read_digits.Given as goal

abbrev pub invariant-loop-i : goal.invariant-loop-i
invariant-loop-i l =
    (l.i ≤ length l.bytes) × ((length l.bytes - l.i) % 8 ≡ 0) × (l.fine ≡ all is_digit (take l.i l.bytes)) × (l.n ≡ number_from 0 (take l.i l.bytes))

abbrev pub decreases-loop-i : goal.decreases-loop-i
decreases-loop-i l = length l.bytes - l.i
