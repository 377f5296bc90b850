-- What running rows needs.
use Rattle.std.specs.Prelude.{◌≡◌, List, ℕ, Ok}
use Rattle.tables.specs.Operands.{Lent}
use Rattle.tables.specs.Refusals.{first_of}
use Rattle.tables.specs.Tables.{record_check}
use Rattle.values.specs.Names.{lent_lines}
use Rattle.grammar.specs.Plan.{plan_check}

-- refusals 1 to 4, 18, 11 and 12 are ruled out
pub record Runnable (lent : Lent) (plan content : List ℕ) : Type 0 where
  pub tables : first_of (lent_lines lent) ≡ Ok tt
  pub sound : plan_check lent plan ≡ Ok tt
  pub holds : record_check lent content ≡ Ok tt
