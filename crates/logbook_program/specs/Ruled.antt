-- What the program says and saves, by the rules. A file's bytes are free: they are what the system reads.
use Rattle.std.specs.Prelude.{◌≡◌, ℕ, ◌<◌, cond, List, ◌==◌, Option, Some, None}
use Rattle.tables.specs.declared.Verdict.{Verdict}
use Rattle.tables.specs.declared.Verdict.TheVariants.{True, False, Refused}
use Rattle.tables.specs.Operands.{Lent}
use Rattle.rules.specs.Calls.{run_gives}
use Rattle.mending.specs.Mend.{mended_record}
use Rattle.merging.specs.Merge.{copies_of, merged_record, contested}

-- the status of a verdict: 0 true, 1 false, 2 where nothing could be judged
abbrev pub status_of : Verdict → ℕ
status_of True = 0
status_of False = 1
status_of (Refused refusal) = 2

-- the status of a merge that is saved: 1 where something is contested
abbrev pub merge_status : ℕ → ℕ
merge_status count = cond (count == 0) 0 1

-- a file that was loaded left room, so that it is whole
abbrev pub Fits : Option ℕ → ℕ → Type 0
Fits (Some n) room = n < room
Fits None room = Unit {0}

-- What is shown and saved of three copies is what the rules merge, and the rows that they list as contested.
pub record Merges (lent : Lent) (plan : List ℕ) (switches : ℕ) (old first second merged list : List ℕ) : Type 0 where
  pub saved : merged ≡ merged_record (copies_of lent.items old first second) (run_gives lent plan first switches).verdict
  pub listed : list ≡ contested (copies_of lent.items old first second) (run_gives lent plan first switches).verdict

-- What is shown and saved of a record is that record mended by the rules.
abbrev pub Mends : List ℕ → List ℕ → List ℕ → Type 0
Mends items old new = new ≡ mended_record items old
