-- Rests on the invariant that the first i bytes pass, and on what `block_in_alphabet` ensures of the next 16.
use mathlib.Core.Path.{◌≡◌}
use mathlib.Core.Bool.{true}
use Prim.Native.Nat.{◌-◌, ◌≤◌}
use lib.ListN.{length, take}
use Rattle.content.specs.Content.{all}
use Rattle.content.specs.Letters.{in_alphabet}
use Rattle.alphabets.proofs.alphabet_blocks.Given as goal

abbrev pub invariant-loop-i : goal.invariant-loop-i
invariant-loop-i l = (l.i ≤ length l.bytes) × (all (in_alphabet l.word) (take l.i l.bytes) ≡ true)

abbrev pub decreases-loop-i : goal.decreases-loop-i
decreases-loop-i l = length l.bytes - l.i
