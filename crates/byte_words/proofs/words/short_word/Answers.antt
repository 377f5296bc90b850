-- Rests on the word of the first four bytes, or of none, and on what is left.
use mathlib.Core.Path.{refl}
use native.Mathlib.Omega.{arith}
use Rattle.byte_words.specs.Words.{word_from}
use Rattle.byte_words.proofs.words.short_word.Goals as goal

pub longer_word-requires-2 : goal.longer_word-requires-2
unfolding word_from
longer_word-requires-2 c = (omega arith, omega arith, refl)
