-- `take_value` meets its contract: from the laws of proofs/ and what its callees ensure. Assumes nothing.
use Rattle.value_notes.proofs.Taken.{barred-over, same_weight}
use Rattle.value_notes.proofs.taking.take_value.Goals as goal

pub returns-in-Barred : goal.returns-in-Barred
returns-in-Barred c =
    same_weight c.in-Barred.is (barred-over c.args.found c.args.tally _ _ c.passed.result c.passed.ensures)
