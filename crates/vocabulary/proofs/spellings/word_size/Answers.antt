-- `word_size` meets its contract.
use Prim.Native.Nat.{◌-◌}
use Rattle.vocabulary.proofs.Cells.{fits, size_is}
use Rattle.vocabulary.proofs.spellings.word_size.Goals as goal

pub overflow_sub-result : goal.overflow_sub-result
overflow_sub-result c = (fits c.args.k c.requires c.start_of-2.result c.start_of.result c.start_of-2.ensures c.start_of.ensures).0

pub returns : goal.returns
returns c = size_is c.args.k c.requires c.start_of-2.result c.start_of.result c.start_of-2.ensures c.start_of.ensures
