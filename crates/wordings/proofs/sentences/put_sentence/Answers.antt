-- The lines are the table's entries.
use mathlib.Core.Path.{refl}
use Rattle.wordings.specs.Sentences.{sentences}
use Rattle.wordings.proofs.Tables.{written, unbroken, all_unbroken, entry_put}
use Rattle.wordings.proofs.sentences.put_sentence.Goals as goal

pub returns : goal.returns
unfolding written unbroken all_unbroken
returns c = entry_put sentences c.args.number refl refl c.put_line.ensures
