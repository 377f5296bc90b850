-- `word_index` meets its contract. The loop's invariant: none of the first k words is it.
use native.Mathlib.Omega.{arith}
use Rattle.std.proofs.lemmas.Grind.{common_steps}
use Rattle.vocabulary.proofs.Cells.{word_here, word_later, word_none}
use Rattle.vocabulary.proofs.spellings.word_index.Goals as goal

pub returns-then-is_word : goal.returns-then-is_word
returns-then-is_word c = grind (arith, common_steps, word_here)

pub loop-k-preserved : goal.loop-k-preserved
loop-k-preserved c = grind (arith, common_steps, word_later)

pub returns : goal.returns
returns c = omega (arith, c.loop-k.invariant, word_none c.loop-k.k (omega arith) c.args.w.now)
