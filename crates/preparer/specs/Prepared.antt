-- What the functions below the calls promise: the lines 1 to 9 and 18 have been tried, and the rows of the condition's tree stand in a
-- buffer.
use Rattle.std.specs.Prelude.{◌≡◌, List, ℕ, Err, Result}
use Rattle.tables.specs.declared.Refusal.{Refusal}
use Rattle.tables.specs.Operands.{Lent}
use Rattle.tables.specs.Refusals.{first_of}
use Rattle.grammar.specs.Parser.{read}
use Rattle.resolver.specs.Resolved.{Readies}
use Rattle.rules.specs.Calls.{token_lines, condition_lines}

-- 1 to 9 and 18; what 1 to 6 or 18 refuse leaves the buffer as it was
pub record Prepares (lent : Lent) (tokens : List ℕ) (r : Result ℕ Refusal) (before after : List ℕ) : Type 0 where
  pub readied : Readies (first_of (condition_lines lent tokens)) (read tokens) r before after
  pub untouched : {refusal : Refusal} → first_of (token_lines lent tokens) ≡ Err refusal → after ≡ before
