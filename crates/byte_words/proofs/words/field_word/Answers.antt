-- Rests on the word of the 8 bytes before the end and on the mask, by the law of the field that ends them.
use Rattle.byte_words.proofs.WordLaws.{bytes_of, field_is}
use Rattle.byte_words.proofs.words.field_word.Goals as goal

pub returns : goal.returns
returns c =
    rw (c.word_before.ensures, c.mask.ensures)
    (field_is (bytes_of c.args.bytes.now (λ i. (c.shared_slice_known-1.given i).fits))
    c.args.end c.args.size c.requires.le_end.0 c.requires.le_end.1 c.requires.le_size.1)
