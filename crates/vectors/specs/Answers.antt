-- An answer as the numbers of a line: a refusal's number, place and byte, or 0, the value and 0; and how many simple conditions were judged.
use Rattle.std.specs.Prelude.{ℕ, Bool, ◌&&◌, ◌==◌, Err, Ok}
use Rattle.tables.specs.declared.Refusal.{Refusal}
use Rattle.tables.specs.declared.Judged.{Judged}
use Rattle.tables.specs.declared.Verdict.{Verdict}
use Rattle.tables.specs.declared.Verdict.TheVariants.{True, False, Refused as Unjudged}
use Rattle.tables.specs.Refusals.{number, place, byte_of, Written}
use Rattle.vectors.specs.declared.answer.Answer.{Answer}

abbrev pub answer : ℕ → ℕ → ℕ → ℕ → Answer
answer n v b c = record { number = n; value = v; byte = b; judged = c }

abbrev pub refused_as : Refusal → ℕ → Answer
refused_as refusal judged = answer (number refusal) (place refusal) (byte_of refusal) judged

abbrev pub written_as : Written → Answer
written_as (Ok n) = answer 0 n 0 0
written_as (Err refusal) = refused_as refusal 0

abbrev pub verdict_as : Verdict → ℕ → Answer
verdict_as True judged = answer 0 1 0 judged
verdict_as False judged = answer 0 0 0 judged
verdict_as (Unjudged refusal) judged = refused_as refusal judged

abbrev pub judged_as : Judged → Answer
judged_as given = verdict_as given.verdict given.count

abbrev pub same_answer : Answer → Answer → Bool
same_answer one other =
    ((one.number == other.number && one.value == other.value) && one.byte == other.byte) && one.judged == other.judged
