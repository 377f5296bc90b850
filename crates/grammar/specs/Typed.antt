-- Document 01, refusal 9: "typing broken", "first such simple condition".
use Rattle.std.specs.Prelude.{◌≡◌, true, List, [], ◌∷◌, ℕ, ◌+◌, ◌*◌, ◌≤◌, ◌<◌, length}
use Rattle.tables.specs.declared.Refusal.TheVariants.{Typing}
use Rattle.tables.specs.Operands.{Lent}
use Rattle.tables.specs.Refusals.{unless, first_failing, first_of, Check}
use Rattle.typing.specs.Tests.{test_of}
use Rattle.typing.specs.Shape.{operands_sound}
use Rattle.typing.specs.Typing.{typed}
use Rattle.grammar.specs.Grammar.{Tree, simple, negated, bracketed, both, either}
use Rattle.grammar.specs.Judging.{simple_count}
use Rattle.grammar.specs.Plan.{plan_row}

-- the simple conditions of the tree are numbered from n on
unfoldable pub typing_from : Lent → ℕ → Tree → Check
typing_from lent n (simple a r b) = unless (typed lent a r b) (Typing n)
typing_from lent n (negated t) = typing_from lent n t
typing_from lent n (bracketed t) = typing_from lent n t
typing_from lent n (both t u) = first_of (typing_from lent n t ∷ typing_from lent (n + simple_count t) u ∷ [])
typing_from lent n (either t u) = first_of (typing_from lent n t ∷ typing_from lent (n + simple_count t) u ∷ [])

-- the operands of each of so many rows in the buffer are within their tables
pub record Shaped (lent : Lent) (rows : List ℕ) (count : ℕ) : Type 0 where
  pub inside : count * 5 ≤ length rows
  pub shape : (k : ℕ) → k < count →
      operands_sound lent (test_of (plan_row rows k).relation) (plan_row rows k).subject (plan_row rows k).object ≡ true

-- 9, over rows: "first such simple condition"
abbrev pub typed_rows : Lent → List ℕ → ℕ → Check
typed_rows lent rows count =
    first_failing (λ k. typed lent (plan_row rows k).subject (plan_row rows k).relation (plan_row rows k).object) Typing 0 count
