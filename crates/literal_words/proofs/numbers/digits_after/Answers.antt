-- `digits_after` meets its contract.
use mathlib.Core.Path.{sym}
use Rattle.literal_words.proofs.Contents.{none_after}
use Rattle.literal_words.proofs.numbers.digits_after.Goals as goal

pub returns : goal.returns
returns c = sym (none_after c.args.word.now _ c.if-at-word.false)
