-- `put_token` meets its contract.
use mathlib.Core.Path.{sym, ap, ◌∙◌}
use mathlib.Core.List.{List}
use Prim.Native.Nat.{ℕ, ◌+◌, ◌-◌}
use native.Mathlib.Omega.{arith}
use lib.ListN.{length, get_or, drop}
use Rattle.literal_bytes.specs.Written.{written_over}
use Rattle.spelling.specs.Names.{leading}
use Rattle.printer.proofs.Wording.{item_word_lem, condition-word, literal_sound_lem, literal-word, switch_there, switch-word}
use Rattle.printer.proofs.tokens.put_token.Goals as goal

pub put_name-requires : goal.put_name-requires
put_name-requires c = rw c.wide-v.ensures (omega (
  arith,
  ap length (item_word_lem c.args.description.now
      c.args.items c.args.places.now c.args.literals.now c.args.bytes.now
      c.args.token c.requires.printable
      c.if-kind-eq-ITEM.true),
  c.requires.token_in_bounds,
))

pub returns-then-kind-eq-ITEM : goal.returns-then-kind-eq-ITEM
returns-then-kind-eq-ITEM c = c.put_name.ensures ∙ ap (λ (v : List ℕ). written_over v c.args.out.now) (ap (λ (n : ℕ). leading (drop (get_or c.args.places.now n 0) c.args.description.now))
    c.wide-v.ensures ∙ sym (item_word_lem c.args.description.now
    c.args.items c.args.places.now c.args.literals.now c.args.bytes.now
    c.args.token
    c.requires.printable c.if-kind-eq-ITEM.true))

pub put_literal-requires : goal.put_literal-requires
put_literal-requires c = rw (c.row_at.ensures, c.wide-v.ensures) (
  literal_sound_lem c.args.description.now
      c.args.items c.args.places.now c.args.literals.now c.args.bytes.now
      c.args.token
      c.requires.printable c.if-kind-eq-LITERAL.true,
  omega (
    arith,
    ap length (literal-word c.args.description.now
        c.args.items c.args.places.now c.args.literals.now c.args.bytes.now
        c.args.token
        c.requires.printable
        c.if-kind-eq-LITERAL.true),
    c.requires.token_in_bounds,
  ),
)

pub copy_word-requires : goal.copy_word-requires
copy_word-requires c = rw c.wide-v.ensures (
  omega (
    arith,
    switch_there c.args.description.now
        c.args.items c.args.places.now c.args.literals.now c.args.bytes.now
        c.args.token
        c.requires.printable c.if-kind-eq-SWITCH_ON.true,
  ),
  omega (
    arith,
    ap length (switch-word c.args.description.now
        c.args.items c.args.places.now c.args.literals.now c.args.bytes.now
        c.args.token
        c.requires.printable
        c.if-kind-eq-SWITCH_ON.true),
    c.requires.token_in_bounds,
  ),
)

pub put_name-requires-then-kind-eq-NAME : goal.put_name-requires-then-kind-eq-NAME
put_name-requires-then-kind-eq-NAME c = rw c.wide-v.ensures (omega (
  arith,
  ap length (condition-word c.args.description.now
      c.args.items c.args.places.now c.args.literals.now c.args.bytes.now
      c.args.token
      c.requires.printable
      c.if-kind-eq-NAME.true),
  c.requires.token_in_bounds,
))

pub returns-then-kind-eq-NAME : goal.returns-then-kind-eq-NAME
returns-then-kind-eq-NAME c = c.put_name-then-kind-eq-NAME.ensures ∙ ap (λ (v : List ℕ). written_over v c.args.out.now) (ap (λ (n : ℕ). leading (drop (get_or
    c.args.places.now
    (c.args.items + n) 0) c.args.description.now))
    c.wide-v.ensures ∙ sym (condition-word c.args.description.now
    c.args.items c.args.places.now c.args.literals.now c.args.bytes.now
    c.args.token
    c.requires.printable
    c.if-kind-eq-NAME.true))
