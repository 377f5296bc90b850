-- Rests on the test over the whole table, at this byte.
use Rattle.content.proofs.Marking.{marked}
use borrow.Author.Rules.{rules}
use Rattle.content.proofs.marks.mark_of.Goals as goal

pub returns : goal.returns
returns c = marked c.args.marks.now c.args.b c.requires (search rules)
