-- Rests on marks of which none was set: those of a run make the rising list.
use native.Mathlib.Omega.{arith}
use Rattle.look_lists.proofs.Looking.{few_runnable, marks_long, marks-listed}
use Rattle.look_lists.proofs.lists.list_reached.Goals as goal

pub mark_reached-requires : goal.mark_reached-requires
mark_reached-requires c = record {
  runnable = c.requires;
  in_bounds = few_runnable c.requires;
}

pub give_marked-requires : goal.give_marked-requires
give_marked-requires c =
    let few = few_runnable c.requires in
    (omega (arith, marks_long c.args.items.now _ c.args.rows.now few c.mark_reached.ensures), few)

pub returns : goal.returns
returns c =
    marks-listed c.args.items.now _ c.args.rows.now (few_runnable c.requires) c.mark_reached.ensures c.give_marked.ensures
