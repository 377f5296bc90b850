-- Rests on the invariant that the word is that of the bytes that were passed, which leaves room for one more, and on what `fill` returns.
use mathlib.Core.Path.{◌≡◌}
use lib.ListN.{take}
use Rattle.byte_words.specs.Words.{word_from}
use Rattle.text_words.proofs.texts.short_filled.Given as goal

abbrev pub invariant-loop-b : goal.invariant-loop-b
invariant-loop-b l = l.word ≡ word_from 0 (take l.b-index l.bytes)
