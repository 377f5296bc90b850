-- Rests on marks of which none was set: those of every row make the rising list.
use Rattle.look_lists.proofs.Looking.{marks-listed}
use Rattle.look_lists.proofs.lists.list_named.Goals as goal

pub returns : goal.returns
returns c =
    marks-listed c.args.items.now _ c.args.rows.now c.requires.0 c.mark_named.ensures c.give_marked.ensures
