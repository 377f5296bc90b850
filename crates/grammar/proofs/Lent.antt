-- The soundness of a plan does not depend on the literal bytes, and typing neither on them nor on the names: the code that checks them is
-- lent none, and typing is one for both rules on the switch-off words.
use mathlib.Core.Path.{◌≡◌}
use mathlib.Core.Bool.{Bool}
use mathlib.Core.List.{List, []}
use Prim.Native.Nat.{ℕ, ◌+◌}
use Rattle.tables.specs.declared.Refusal.TheVariants.{PlanRow as PlanFault}
use Rattle.tables.specs.Operands.{Lent, lend, lend_names, under}
use Rattle.typing.specs.Tests.{test_of}
use Rattle.tables.proofs.Lines.{failing_same}
use Rattle.typing.proofs.Lending.{shape_lent, typed-lent}
use Rattle.grammar.specs.declared.PlanRow.{PlanRow}
use Rattle.grammar.specs.Grammar.{Tree, simple, negated, bracketed, both, either}
use Rattle.grammar.specs.Judging.{simple_count}
use Rattle.grammar.specs.Typed.{typing_from}
use Rattle.grammar.specs.Plan.{plan_row, plan_rows, plan_row_sound, plan_check}

module _ (off : Bool) (items literals bytes names : List ℕ) where
  abbrev lent : Lent
  lent = under off (lend_names items literals bytes names)

  abbrev unlent : Lent
  unlent = under off (lend_names items literals [] names)

  pub row-lent : (rows k : ℕ) (r : PlanRow) → plan_row_sound lent rows k r ≡ plan_row_sound unlent rows k r
  unfolding plan_row_sound
  row-lent rows k r =
      rw (
        shape_lent off items literals bytes names (test_of r.relation) r.subject r.object,
        typed-lent off items literals bytes names r.subject r.relation r.object,
        ← typed-lent off items literals [] names r.subject r.relation r.object,
      )

  pub plan-lent : (plan : List ℕ) → plan_check lent plan ≡ plan_check unlent plan
  plan-lent plan =
      rw (failing_same (λ k. plan_row_sound lent (plan_rows plan) k (plan_row plan k))
      (λ k. plan_row_sound unlent (plan_rows plan) k (plan_row plan k))
      PlanFault 0 (plan_rows plan) (λ k l h. row-lent (plan_rows plan) k (plan_row plan k)))

  pub typing_lent : (n : ℕ) (t : Tree) → typing_from lent n t ≡ typing_from (lend items literals []) n t
  unfolding typing_from
  typing_lent n (simple a r b) = rw (typed-lent off items literals bytes names a r b)
  typing_lent n (negated t) = typing_lent n t
  typing_lent n (bracketed t) = typing_lent n t
  typing_lent n (both t u) = rw (typing_lent n t, typing_lent (n + simple_count t) u)
  typing_lent n (either t u) = rw (typing_lent n t, typing_lent (n + simple_count t) u)
