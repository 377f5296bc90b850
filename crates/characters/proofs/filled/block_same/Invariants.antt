-- Rests on the invariant that the first k bytes are the same where `same` still holds.
use mathlib.Core.Path.{◌≡◌}
use mathlib.Core.Bool.{true}
use lib.ListN.{take}
use Rattle.characters.proofs.filled.block_same.Given as goal

abbrev pub invariant-loop-k : goal.invariant-loop-k
invariant-loop-k l = l.same ≡ true → take l.k l.left ≡ take l.k l.right
