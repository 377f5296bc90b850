-- `add` meets its contract.
use mathlib.Core.Path.{ap, ◌∙◌}
use Rattle.std.specs.Prelude.{Ok}
use Rattle.senses.specs.declared.Met.{Met}
use Rattle.lexer.proofs.Adding.{fault-step, full-step, token_step, literal_room, literal-step}
use Rattle.lexer.proofs.laying.add.Goals as goal

pub returns-in-Token : goal.returns-in-Token
returns-in-Token c = token_step c.requires.ready
    c.requires.meets (c.in-Ok.is ∙ ap (λ (m : Met). Ok m) c.in-Token.is)
    c.add_token.ensures.0 c.add_token.ensures.1

pub returns-then-held-ge64 : goal.returns-then-held-ge64
returns-then-held-ge64 c = full-step c.requires.ready
    c.requires.meets (c.in-Ok.is ∙ ap (λ (m : Met). Ok m) c.in-Literal.is) c.if-held-ge64.true

pub add_literal-next-requires : goal.add_literal-next-requires
add_literal-next-requires c = literal_room c.requires.ready
    c.requires.meets (c.in-Ok.is ∙ ap (λ (m : Met). Ok m) c.in-Literal.is) c.if-held-ge64.false

pub returns-else-held-ge64 : goal.returns-else-held-ge64
returns-else-held-ge64 c = literal-step
    c.requires.ready
    c.requires.meets
    (c.in-Ok.is ∙ ap (λ (m : Met). Ok m) c.in-Literal.is)
    c.if-held-ge64.false c.add_literal-next.ensures

pub returns-in-Err : goal.returns-in-Err
returns-in-Err c = fault-step c.requires.ready
    c.requires.meets c.in-Err.is
