-- Document 01, "What to write where": "Where an answer is an enum, a definition provides this paper's number and values for each case,
-- and the promises use that definition." Expand, plan, judge and run promise their answers in these numbers too.
use Rattle.std.specs.Prelude.{◌≡◌, List, [], ◌∷◌, ℕ, Err, Ok}
use Rattle.tables.specs.declared.Refusal.{Refusal}
use Rattle.tables.specs.declared.Verdict.{Verdict}
use Rattle.tables.specs.declared.Verdict.TheVariants.{True, False, Refused as Unjudged}
use Rattle.tables.specs.Refusals.{number, values, Written}

-- "A refusal gives a number and a place", and (02, c, g) 13 and 17 a byte
abbrev pub of_refusal : Refusal → List ℕ
of_refusal refusal = number refusal ∷ values refusal

-- "Success: expand and plan give the count of numbers written". 0, which is no refusal's number, stands before what success gives.
abbrev pub of_written : Written → List ℕ
of_written (Ok n) = 0 ∷ n ∷ []
of_written (Err refusal) = of_refusal refusal

-- "judge and run give true or false"
abbrev pub of_verdict : Verdict → List ℕ
of_verdict True = 0 ∷ 1 ∷ []
of_verdict False = 0 ∷ 0 ∷ []
of_verdict (Unjudged refusal) = of_refusal refusal

-- No two answers have the same numbers: to promise the numbers is to promise the answer.
pub record NumbersTell : Type 0 where
  pub written : (a b : Written) → of_written a ≡ of_written b → a ≡ b
  pub verdict : (a b : Verdict) → of_verdict a ≡ of_verdict b → a ≡ b
