-- Rests on what a shift leaves of ones.
use Rattle.byte_words.proofs.WordLaws.{mask_is}
use Rattle.byte_words.proofs.words.mask.Goals as goal

pub returns : goal.returns
returns c = mask_is c.args.size c.requires.1
