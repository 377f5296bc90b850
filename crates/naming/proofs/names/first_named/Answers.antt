-- `first_named` meets its contract. The loop's invariant: no row before k has the name.
use mathlib.Core.Path.{sym, ap, ◌∙◌}
use native.Mathlib.Omega.{arith}
use Rattle.description.specs.Grammar.{same}
use Rattle.spelling.specs.Names.{leading}
use Rattle.naming.proofs.Finding.{none_left, found_here, found_later}
use Rattle.naming.proofs.names.first_named.Goals as goal

pub returns-then-same_name : goal.returns-then-same_name
returns-then-same_name c = let here = found_here c.args.description.now c.args.places.now c.args.word.now c.loop-k.k
    c.loop-k-test.true in
    omega (
      arith,
      c.loop-k.invariant,
      here (sym (ap (λ v. same c.args.word.now (leading v)) c.rest_from.ensures) ∙ sym
          c.same_name.ensures ∙ c.if-same_name.true),
    )

pub loop-k-preserved : goal.loop-k-preserved
loop-k-preserved c = let later = found_later c.args.description.now c.args.places.now c.args.word.now c.loop-k.k
    c.loop-k-test.true in
    omega (
      arith,
      c.loop-k.invariant,
      later (sym (ap (λ v. same c.args.word.now (leading v)) c.rest_from.ensures) ∙ sym
          c.same_name.ensures ∙ c.if-same_name.false),
    )

pub returns : goal.returns
returns c = omega (
  arith,
  c.loop-k.invariant,
  none_left c.args.description.now c.args.places.now c.args.word.now c.loop-k.k (omega arith),
)
