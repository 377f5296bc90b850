-- A plan run over a file: records of one size, laid one after another. For each record stands what run gives for it.
use Rattle.std.specs.Prelude.{◌≡◌, Bool, true, false, cond, ◌&&◌, List, [], ◌∷◌, ◌++◌, ℕ, zero, suc, ◌*◌, ◌/◌, ◌%◌, ◌≤◌, length, take, drop, eqb, leb, Result, Ok, Err}
use Rattle.tables.specs.declared.Verdict.{Verdict}
use Rattle.tables.specs.declared.Verdict.TheVariants.{True, False, Refused as Stopped}
use Rattle.tables.specs.declared.Judged.{Judged}
use Rattle.tables.specs.Operands.{Lent}
use Rattle.tables.specs.Refusals.{number, place, byte_of, first_of, Check}
use Rattle.tables.specs.Tables.{record_check}
use Rattle.values.specs.Names.{lent_lines}
use Rattle.grammar.specs.Plan.{plan_check}
use Rattle.rules.specs.Calls.{run_gives, room_check}
use Rattle.sweeps.specs.declared.Unswept.{Unswept}
use Rattle.sweeps.specs.declared.Unswept.TheVariants.{Uneven, Refused as Barred}

-- so many records of one size, from the start of a file
unfoldable pub laid : ℕ → ℕ → List ℕ → List (List ℕ)
laid zero size file = []
laid (suc n) size file = take size file ∷ laid n size (drop size file)

abbrev pub records_of : ℕ → List ℕ → List (List ℕ)
records_of size file = laid (length file / size) size file

-- What is told of one record, four numbers: its truth (1 or 0) or its refusal's number, which is 13 or 17; the place and the byte of
-- a refusal, else 0; and how many simple conditions were judged.
abbrev pub truth_or_number : Verdict → ℕ
truth_or_number True = 1
truth_or_number False = 0
truth_or_number (Stopped refusal) = number refusal

abbrev pub place_in : Verdict → ℕ
place_in True = 0
place_in False = 0
place_in (Stopped refusal) = place refusal

abbrev pub byte_in : Verdict → ℕ
byte_in True = 0
byte_in False = 0
byte_in (Stopped refusal) = byte_of refusal

abbrev pub answer_of : Judged → List ℕ
answer_of judged = truth_or_number judged.verdict ∷ place_in judged.verdict ∷ byte_in judged.verdict ∷ judged.count ∷ []

-- "for each record run's whole answer stands in the answers"
unfoldable pub answers_of : (List ℕ → Judged) → List (List ℕ) → List ℕ
answers_of run [] = []
answers_of run (content ∷ contents) = answer_of (run content) ++ answers_of run contents

abbrev pub swept_numbers : Lent → List ℕ → List ℕ → ℕ → ℕ → List ℕ
swept_numbers lent plan file size switches = answers_of (λ content. run_gives lent plan content switches) (records_of size file)

-- 21: a size of 0, or one that does not divide the file; or more records than an answer of C can count numbers for
unfoldable pub evenly : ℕ → ℕ → Bool
evenly size bytes = leb 1 size && eqb (bytes % size) 0 && leb (bytes / size) 1073741823

-- run's refusals before 12: 1 to 4, 18, 11
abbrev pub rule_lines : Lent → List ℕ → List Check
rule_lines lent plan = lent_lines lent ++ plan_check lent plan ∷ []

-- 12: "the record ends before an item does", of records that all have one size; in an empty file there is none
abbrev pub size_check : Lent → ℕ → List ℕ → Check
size_check lent size file = cond (eqb (length file) 0) (Ok tt) (record_check lent (take size file))

-- what a sweep answers, and what it leaves in its output
pub record Sweep : Type 0 where
  pub answer : Result ℕ Unswept
  pub output : List ℕ

-- 1 to 4, 18, 11; then 21; then 12 and 10. A refusal changes nothing.
abbrev pub sweep_by : Check → Bool → Check → List ℕ → List ℕ → Sweep
sweep_by (Err refusal) even others numbers output = record { answer = Err (Barred refusal); output = output }
sweep_by (Ok _) false others numbers output = record { answer = Err Uneven; output = output }
sweep_by (Ok _) true (Err refusal) numbers output = record { answer = Err (Barred refusal); output = output }
sweep_by (Ok _) true (Ok _) numbers output = record { answer = Ok (length numbers); output = numbers ++ drop (length numbers) output }

-- the whole answer and the output
unfoldable pub sweep_gives : Lent → List ℕ → List ℕ → ℕ → ℕ → List ℕ → Sweep
sweep_gives lent plan file size switches output =
    let numbers = swept_numbers lent plan file size switches in
    sweep_by (first_of (rule_lines lent plan)) (evenly size (length file)) (first_of (size_check lent size file ∷ room_check numbers output ∷ [])) numbers output

-- the answer and the output that a call leaves are these
pub record Leaves (sweep : Sweep) (answer : Result ℕ Unswept) (output : List ℕ) : Type 0 where
  pub answered : answer ≡ sweep.answer
  pub left : output ≡ sweep.output

-- What the private function that goes over the records needs: nothing refuses, for any record of that size.
pub record Sweepable (lent : Lent) (plan file : List ℕ) (size room : ℕ) : Type 0 where
  pub rules : first_of (rule_lines lent plan) ≡ Ok tt
  pub sizes : evenly size (length file) ≡ true
  pub holds : size_check lent size file ≡ Ok tt
  pub fits : length file / size * 4 ≤ room
