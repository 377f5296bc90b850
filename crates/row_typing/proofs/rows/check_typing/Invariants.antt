-- What `plan_row` and `well_typed` ensure, and the laws of a loop that seeks the first place that fails a test.
use mathlib.Core.List.{[]}
use Rattle.tables.specs.declared.Refusal.TheVariants.{Typing}
use Rattle.tables.specs.Operands.{lend}
use Rattle.typing.specs.Typing.{typed}
use Rattle.tables.proofs.Lines.{Passed}
use Rattle.grammar.specs.Plan.{plan_row}
use Rattle.row_typing.proofs.rows.check_typing.Given as goal

abbrev pub invariant-loop-k : goal.invariant-loop-k
invariant-loop-k l =
    Passed (λ v. typed (lend l.items l.literals []) (plan_row l.rows v).subject (plan_row l.rows v).relation (plan_row l.rows v).object) Typing l.count l.k
