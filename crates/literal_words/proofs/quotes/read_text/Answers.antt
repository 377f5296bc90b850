-- `read_text` meets its contract.
use mathlib.Core.Path.{◌∙◌}
use Rattle.literal_words.proofs.Holding.{text_empty, text_none, text_held}
use Rattle.literal_words.proofs.quotes.read_text.Goals as goal

pub returns-then-word-eq0 : goal.returns-then-word-eq0
returns-then-word-eq0 c = text_empty c.args.word.now c.if-word-eq0.true

pub returns-then-word-eq34 : goal.returns-then-word-eq34
returns-then-word-eq34 c =
    c.held.ensures
    ∙ text_held c.args.word.now c.if-word-eq0.false c.if-word-eq34.true

pub returns : goal.returns
returns c = text_none c.args.word.now c.if-word-eq0.false c.if-word-eq34.false
