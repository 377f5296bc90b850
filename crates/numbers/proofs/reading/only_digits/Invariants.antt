-- Rests on the invariant that `fine` says of the first i bytes what it shall say of all; after them there are eights.
use mathlib.Core.Path.{◌≡◌}
use Prim.Native.Nat.{◌-◌, ◌%◌, ◌≤◌}
use lib.ListN.{length, take}
use Rattle.content.specs.Content.{all, is_digit}
use Rattle.numbers.proofs.reading.only_digits.Given as goal

abbrev pub invariant-loop-i : goal.invariant-loop-i
invariant-loop-i l = (l.i ≤ length l.bytes) × ((length l.bytes - l.i) % 8 ≡ 0) × (l.fine ≡ all is_digit (take l.i l.bytes))

abbrev pub decreases-loop-i : goal.decreases-loop-i
decreases-loop-i l = length l.bytes - l.i
