-- Rests on the word of the 8 bytes before the end and on the mask, by the law of the text that ends them.
use native.Mathlib.Omega.{arith}
use Rattle.byte_words.proofs.WordLaws.{bytes_of}
use Rattle.text_words.proofs.TextLaws.{text-filled}
use Rattle.text_words.proofs.texts.filled_text.Goals as goal

pub returns : goal.returns
returns c =
    let bytes = bytes_of c.args.bytes.now (λ i. (c.shared_slice_known-1.given i).fits) in
    text-filled bytes c.args.end c.args.size c.requires.le_end.0 c.requires.le_end.1 (omega arith)
    c.word_before.ensures c.mask.ensures c.args.n c.fill.ensures
