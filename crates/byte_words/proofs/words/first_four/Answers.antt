-- Rests on what `join` returns for the 4 bytes after zeros, with the bits of hex 30 turned over in each.
use Rattle.byte_words.proofs.WordLaws.{bytes_of, four_listed}
use Rattle.byte_words.proofs.words.first_four.Goals as goal

pub returns : goal.returns
returns c =
    four_listed (bytes_of c.args.bytes.now (λ i. (c.shared_slice_known-1.given i).fits)) c.requires c.join.ensures
