-- How an answer is told to C and COBOL: the call returns the refusal's number, 0 for success; the rest are nine numbers, of which
-- a call leaves at 0 what it has nothing to say of.
use Rattle.std.specs.Prelude.{◌≡◌, cond, List, [], ◌∷◌, ℕ, leb, Err, Ok}
use Rattle.tables.specs.declared.Verdict.{Verdict}
use Rattle.tables.specs.declared.Verdict.TheVariants.{True, False, Refused}
use Rattle.tables.specs.declared.Judged.{Judged}
use Rattle.tables.specs.Refusals.{number, place, byte_of, Written}
use Rattle.rules.specs.Calls.{Gives}

-- value: the place of a refusal, or 1 and 0 for true and false; the byte of a stop; the simple conditions judged; the count of
-- numbers written to each output, six at most
abbrev pub answer_numbers : ℕ → ℕ → ℕ → ℕ → List ℕ
answer_numbers value byte judged written = value ∷ byte ∷ judged ∷ written ∷ 0 ∷ 0 ∷ 0 ∷ 0 ∷ 0 ∷ []

-- of expand and plan
abbrev pub written_number : Written → ℕ
written_number (Ok n) = 0
written_number (Err refusal) = number refusal

abbrev pub written_place : Written → ℕ
written_place (Ok n) = 0
written_place (Err refusal) = place refusal

abbrev pub written_count : Written → ℕ
written_count (Ok n) = n
written_count (Err refusal) = 0

abbrev pub written_numbers : Written → List ℕ
written_numbers written = answer_numbers (written_place written) 0 0 (written_count written)

-- a number of 32 bits: one that is greater stands as the greatest
abbrev pub narrowed : ℕ → ℕ
narrowed n = cond (leb n 4294967295) n 4294967295

-- of a call that lists: the place of a refusal, or the count of numbers listed
abbrev pub listed_numbers : Written → List ℕ
listed_numbers written = answer_numbers (narrowed (written_place written)) 0 0 (narrowed (written_count written))

-- of judge and run
abbrev pub verdict_number : Verdict → ℕ
verdict_number True = 0
verdict_number False = 0
verdict_number (Refused refusal) = number refusal

abbrev pub verdict_value : Verdict → ℕ
verdict_value True = 1
verdict_value False = 0
verdict_value (Refused refusal) = place refusal

abbrev pub verdict_byte : Verdict → ℕ
verdict_byte True = 0
verdict_byte False = 0
verdict_byte (Refused refusal) = byte_of refusal

abbrev pub judged_numbers : Judged → List ℕ
judged_numbers judged = answer_numbers (verdict_value judged.verdict) (verdict_byte judged.verdict) judged.count 0

-- what a call returns, and what it leaves in the answer
pub record Told (number : ℕ) (numbers : List ℕ) (returned : ℕ) (answer : List ℕ) : Type 0 where
  pub returns : returned ≡ number
  pub answers : answer ≡ numbers

-- expand and plan leave their output besides
pub record Leaves (gives : Gives) (returned : ℕ) (answer output : List ℕ) : Type 0 where
  pub told : Told (written_number gives.answer) (written_numbers gives.answer) returned answer
  pub left : output ≡ gives.output

-- and so do the calls that list
pub record Lists (gives : Gives) (returned : ℕ) (answer list : List ℕ) : Type 0 where
  pub told : Told (written_number gives.answer) (listed_numbers gives.answer) returned answer
  pub left : list ≡ gives.output

abbrev pub Tells : Judged → ℕ → List ℕ → Type 0
Tells judged returned answer = Told (verdict_number judged.verdict) (judged_numbers judged) returned answer
