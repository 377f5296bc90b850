-- Rests on the sides that the code reads of two literals.
use Rattle.names.proofs.Ends.{literal_lies}
use Rattle.name_pairs.proofs.compare_ends.Goals as goal

pub row_part-value-requires : goal.row_part-value-requires
row_part-value-requires c = literal_lies c.requires.0 c.requires.1 c.row_at-first.ensures

pub row_part-requires : goal.row_part-requires
row_part-requires c = literal_lies c.requires.0 c.requires.2 c.row_at-last.ensures
