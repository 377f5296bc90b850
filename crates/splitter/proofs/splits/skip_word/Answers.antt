-- `skip_word` meets its contract.
use mathlib.Core.Path.{sym, ◌∙◌}
use Rattle.splitter.proofs.Walking.{found-next, found_end, past_word, not_past, none_past}
use Rattle.splitter.proofs.splits.skip_word.Goals as goal

pub returns-in-Some : goal.returns-in-Some
returns-in-Some c =
    let next = c.in-Some.next in
    let found = found-next c.next_word.result next c.next_word.ensures c.in-Some.is in
    past_word c.args.text.now c.args.word.now c.args.from next.at next.end found.0
    found.1 found.2 found.3 (sym c.same_bytes.ensures ∙ c.if-same_bytes.true)

pub returns-in-Some-2 : goal.returns-in-Some-2
returns-in-Some-2 c =
    let next = c.in-Some.next in
    let found = found-next c.next_word.result next c.next_word.ensures c.in-Some.is in
    not_past c.args.text.now c.args.word.now c.args.from next.at next.end c.requires
    found.3 (sym c.same_bytes.ensures ∙ c.if-same_bytes.false)

pub returns-in-None : goal.returns-in-None
returns-in-None c =
    none_past c.args.text.now c.args.word.now c.args.from c.requires
    (found_end c.next_word.result c.next_word.ensures c.in-None.is)
