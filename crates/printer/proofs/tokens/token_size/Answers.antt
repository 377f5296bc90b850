-- `token_size` meets its contract.
use mathlib.Core.Path.{sym, ap, ◌∙◌}
use mathlib.Core.List.{[]}
use Prim.Native.Nat.{ℕ, ◌+◌, ◌-◌}
use lib.ListN.{length, get_or, drop}
use Rattle.spelling.specs.Names.{leading}
use Rattle.vocabulary.specs.Spellings.{spelt}
use Rattle.printer.proofs.Wording.{item_word_lem, condition-word, word-word}
use Rattle.printer.proofs.tokens.token_size.Goals as goal

pub returns-then-kind-eq-ITEM : goal.returns-then-kind-eq-ITEM
returns-then-kind-eq-ITEM c = c.name_size.ensures ∙ ap (λ (n : ℕ). length (leading (drop (get_or c.args.places.now n 0) c.args.description.now))) c.wide-v.ensures ∙ sym (ap length (item_word_lem c.args.description.now c.args.items c.args.places.now c.args.literals.now
    c.args.bytes.now c.args.token
    c.requires c.if-kind-eq-ITEM.true))

pub returns-then-kind-eq-NAME : goal.returns-then-kind-eq-NAME
returns-then-kind-eq-NAME c = c.name_size-then-kind-eq-NAME.ensures ∙ ap (λ (n : ℕ). length (leading (drop (get_or c.args.places.now
    (c.args.items + n) 0) c.args.description.now)))
    c.wide-v.ensures ∙ sym (ap length (condition-word c.args.description.now
    c.args.items c.args.places.now c.args.literals.now c.args.bytes.now
    c.args.token
    c.requires c.if-kind-eq-NAME.true))

pub returns : goal.returns
returns c = c.word_size-2.ensures ∙ ap (λ (n : ℕ). length (get_or spelt n [])) c.wide-v.ensures ∙ sym (ap length (word-word c.args.description.now
    c.args.items c.args.places.now c.args.literals.now c.args.bytes.now
    c.args.token
    c.requires c.if-kind-eq-ITEM.false c.if-kind-eq-LITERAL.false
    c.if-kind-eq-SWITCH_ON.false c.if-kind-eq-NAME.false))
