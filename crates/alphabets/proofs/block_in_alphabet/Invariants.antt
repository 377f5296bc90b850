-- Rests on the invariant that `fine` is `all` of the bytes that were passed.
use mathlib.Core.Path.{◌≡◌}
use lib.ListN.{take}
use Rattle.content.specs.Content.{all}
use Rattle.content.specs.Letters.{in_alphabet}
use Rattle.alphabets.proofs.block_in_alphabet.Given as goal

abbrev pub invariant-loop-b : goal.invariant-loop-b
invariant-loop-b l = l.fine ≡ all (in_alphabet l.word) (take l.b-index (take 16 l.bytes))
