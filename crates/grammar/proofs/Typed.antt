-- Typing of a tree as a loop over the rows of its plan.
use mathlib.Core.Path.{◌≡◌, sym}
use Prim.Native.Nat.{ℕ, ◌+◌}
use Rattle.tables.specs.declared.Refusal.TheVariants.{Typing}
use Rattle.tables.specs.Operands.{Lent}
use Rattle.tables.specs.Refusals.{first_failing}
use Rattle.typing.specs.Typing.{typed}
use Rattle.tables.proofs.Lines.{failing_split}
use Rattle.grammar.specs.declared.PlanRow.{PlanRow}
use Rattle.grammar.specs.Grammar.{Tree, simple, negated, bracketed, both, either}
use Rattle.grammar.specs.Judging.{simple_count}
use Rattle.grammar.specs.Typed.{typing_from}
use Rattle.grammar.specs.Plan.{rows_of}
use Rattle.grammar.proofs.Segment.{Stands, stands_one, stands_parts}

-- the check of the tree is the loop over its rows, wherever they stand
pub typing_of_rows : (lent : Lent) (row : ℕ → PlanRow) (n y f : ℕ) (t : Tree) → Stands row n (rows_of n y f t) →
    typing_from lent n t ≡ first_failing (λ k. typed lent (row k).subject (row k).relation (row k).object) Typing n (simple_count t)
unfolding typing_from simple_count rows_of first_failing
typing_of_rows lent row n y f (simple a r b) h =
    rw (stands_one row n (record { subject = a; relation = r; object = b; holds = y; fails = f }) h)
typing_of_rows lent row n y f (negated t) h = typing_of_rows lent row n f y t h
typing_of_rows lent row n y f (bracketed t) h = typing_of_rows lent row n y f t h
typing_of_rows lent row n y f (both t u) h =
    let p = stands_parts row n (n + simple_count t) f y f t u h in
    rw (typing_of_rows lent row n (n + simple_count t) f t p.0, typing_of_rows lent row (n + simple_count t) y f u p.1)
    (sym (failing_split (λ k. typed lent (row k).subject (row k).relation (row k).object) Typing n (simple_count t) (simple_count u)))
typing_of_rows lent row n y f (either t u) h =
    let p = stands_parts row n y (n + simple_count t) y f t u h in
    rw (typing_of_rows lent row n y (n + simple_count t) t p.0, typing_of_rows lent row (n + simple_count t) y f u p.1)
    (sym (failing_split (λ k. typed lent (row k).subject (row k).relation (row k).object) Typing n (simple_count t) (simple_count u)))
