-- `literal_row` meets its contract: from the laws of proofs/ and what its callees ensure. Assumes nothing.
use mathlib.Core.Path.{◌≡◌, sym, ap, ◌∙◌}
use native.Mathlib.Omega.{arith}
use Rattle.literal_rows.proofs.Words.{held_small, in_quotes, no_quotes, text_row}
use Rattle.literal_rows.proofs.literals.literal_row.Goals as goal
use Rattle.std.specs.Prelude.{Some}

pub text_row-requires : goal.text_row-requires
text_row-requires c =
    held_small c.args.word.now _ (sym c.read_text.ensures ∙ c.in-Some.is)

pub returns-in-Some : goal.returns-in-Some
returns-in-Some c =
    let e = sym c.read_text.ensures ∙ c.in-Some.is in
    ap Some c.text_row.ensures ∙ sym (ap text_row e) ∙ in_quotes c.args.word.now c.requires (sym c.byte_at.ensures ∙ omega arith)

pub returns-in-None : goal.returns-in-None
returns-in-None c =
    let e = sym c.read_text.ensures ∙ c.in-None.is in
    sym (ap text_row e) ∙ in_quotes c.args.word.now c.requires (sym c.byte_at.ensures ∙ omega arith)

pub returns : goal.returns
returns c =
    c.read_number.ensures ∙ no_quotes c.args.word.now c.requires (λ e. let quote : c.byte_at.result ≡ 34 = c.byte_at.ensures ∙ e in omega arith)
