-- Document 02, c), g): the byte of a stop is "an offset in the record".
use Rattle.std.specs.Prelude.{List, ℕ, ◌<◌, length}
use Rattle.tables.specs.declared.Verdict.{Verdict}
use Rattle.tables.specs.declared.Verdict.TheVariants.{True, False, Refused}
use Rattle.tables.specs.Operands.{Lent}
use Rattle.tables.specs.Refusals.{byte_of}
use Rattle.values.specs.Truth.{outcome}
use Rattle.grammar.specs.Grammar.{Tree}
use Rattle.grammar.specs.Judging.{judged}
use Rattle.grammar.specs.Plan.{run}

abbrev pub InRecord : List ℕ → Verdict → Type 0
InRecord content True = Unit {0}
InRecord content False = Unit {0}
InRecord content (Refused refusal) = byte_of refusal < length content

-- of every tree that is judged and of every list of numbers that is run, whatever the tables hold
pub record StopsInside (lent : Lent) (content : List ℕ) (switches : ℕ) : Type 0 where
  pub judge : (n : ℕ) (t : Tree) → InRecord content (judged (outcome lent content switches) n t)
  pub run : (plan : List ℕ) → InRecord content (run (outcome lent content switches) plan)

abbrev pub StopsInRecord : Type 0
StopsInRecord = (lent : Lent) (content : List ℕ) (switches : ℕ) → StopsInside lent content switches
