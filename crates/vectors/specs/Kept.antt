-- Demand 3 on a case, as the program tries it with room for every expanded form and every plan.
use Rattle.std.specs.Prelude.{◌≡◌, ℕ, ◌≤◌, List, length, replicate}
use Rattle.tables.specs.Operands.{Lent}
use Rattle.rules.specs.Calls.{written_over, expand_gives, plan_gives, judge_gives, run_gives}
use Rattle.vectors.specs.Parts.{lent_in, tokens_in, switches_in}

abbrev pub zeros : List ℕ
zeros = replicate 640 0

-- these tokens have this plan
abbrev pub HasPlan : Lent → List ℕ → List ℕ → Type 0
HasPlan lent tokens rows = plan_gives lent tokens zeros ≡ written_over rows zeros

-- "Expand succeeds on the same condition", and its form, "if at most 256" tokens, has the same plan
pub record FormHasPlan (lent : Lent) (tokens rows : List ℕ) : Type 0 where
  pub form : List ℕ
  pub expands : expand_gives lent tokens zeros ≡ written_over form zeros
  pub again : length form ≤ 256 → HasPlan lent form rows

-- and "what run gives equals the rules' answer for the condition", which is judge's
pub record Kept (words bytes content rows : List ℕ) : Type 0 where
  pub runs : run_gives (lent_in words bytes) rows content (switches_in words) ≡ judge_gives (lent_in words bytes) (tokens_in words) content (switches_in words)
  pub formed : FormHasPlan (lent_in words bytes) (tokens_in words) rows
