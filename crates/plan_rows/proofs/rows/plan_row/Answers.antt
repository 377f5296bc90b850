-- The five numbers that the code reads are the definition's own.
use mathlib.Core.Path.{refl}
use Rattle.grammar.specs.Plan.{plan_row}
use Rattle.plan_rows.proofs.rows.plan_row.Goals as goal

pub returns : goal.returns
unfolding plan_row
returns c = refl
