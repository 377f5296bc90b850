-- Rests on the side that the code reads of a literal.
use Rattle.names.proofs.Ends.{literal_lies}
use Rattle.names.proofs.ranges.compare_end.Goals as goal

pub row_part-requires : goal.row_part-requires
row_part-requires c = literal_lies c.requires.literals.0 c.requires.literals.1 c.row_at-literal.ensures
