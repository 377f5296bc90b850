-- Rests on `|` of a word shifted past the spaces.
use Rattle.text_words.proofs.TextLaws.{fill_is}
use Rattle.text_words.proofs.texts.fill.Goals as goal

pub returns : goal.returns
returns c =
    fill_is c.args.size c.args.n c.requires.1 c.requires.2 c.requires.3 c.spaces.ensures
