-- Rests on the invariant that the word is that of the first bytes, as many as were passed, which leaves room for one more.
use mathlib.Core.Path.{◌≡◌}
use Prim.Native.Nat.{◌+◌}
use lib.ListN.{take}
use Rattle.byte_words.specs.Words.{digit_word}
use Rattle.byte_words.proofs.words.longer_word.Given as goal

abbrev pub invariant-loop-b : goal.invariant-loop-b
invariant-loop-b l = l.word ≡ digit_word (take (l.from + l.b-index) l.bytes)
