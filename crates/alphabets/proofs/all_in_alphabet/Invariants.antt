-- Rests on the invariant that `all` of the bytes is `all` of those from the loop's place on.
use mathlib.Core.Path.{◌≡◌}
use lib.ListN.{drop}
use Rattle.content.specs.Content.{all}
use Rattle.content.specs.Letters.{in_alphabet}
use Rattle.alphabets.proofs.all_in_alphabet.Given as goal

abbrev pub invariant-loop-b : goal.invariant-loop-b
invariant-loop-b l = all (in_alphabet l.word) l.bytes ≡ all (in_alphabet l.word) (drop l.b-index (drop l.first l.bytes))
