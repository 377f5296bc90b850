-- Document 02, l): "Switch-off words go." The two converters, and what is promised of them. `under true` is the old rules, which have
-- switch-off words; `under false` the new ones.
use Rattle.std.specs.Prelude.{◌≡◌, true, false, List, [], ◌∷◌, ◌++◌, ℕ, length, take, leb, Ok}
use Rattle.tables.specs.declared.Refusal.TheVariants.{TokenCount}
use Rattle.tables.specs.Operands.{Lent, under}
use Rattle.tables.specs.Refusals.{unless, first_of, Check}
use Rattle.values.specs.Names.{lent_lines}
use Rattle.tables.specs.Tokens.{is_off, token_there}
use Rattle.tables.specs.Rows.{row_count, name_count}
use Rattle.typing.specs.Tests.{test_of}
use Rattle.typing.specs.Shape.{shape_sound}
use Rattle.grammar.specs.Grammar.{Tree}
use Rattle.grammar.specs.Plan.{plan_check}
use Rattle.grammar.specs.Converted.{converted_tokens, converted_tree, on_visits, converted_plan}
use Rattle.rules.specs.Calls.{Gives, condition_lines, room_check, writes, plan_gives, judge_walk, judge_gives, run_walk, run_gives}
use Rattle.rules.specs.Demands.{Accepted}

-- "else with 5 over 256 tokens"
abbrev pub fit_check : List ℕ → Check
fit_check tokens = unless (leb (length tokens) 256) TokenCount

-- "A converter takes conditions accepted under the old rules .. it refuses with 1 to 9 or 18 by those rules, else with 5 over 256
-- tokens, then 10."
unfoldable pub convert_gives : Lent → List ℕ → List ℕ → Gives
convert_gives lent tokens output =
    let numbers = converted_tokens tokens in
    writes (first_of (condition_lines (under true lent) tokens ++ fit_check numbers ∷ room_check numbers output ∷ [])) numbers output

-- "Old plans get run's old refusals before 12, or 10, or are converted"
unfoldable pub convert_plan_gives : Lent → List ℕ → List ℕ → Gives
convert_plan_gives lent plan output =
    let numbers = converted_plan plan in
    writes (first_of (lent_lines (under true lent) ++ plan_check (under true lent) plan ∷ room_check numbers output ∷ [])) numbers output

-- "Expand, plan and judge refuse it with 6, run with 11": an off token fails the test of line 6, and a row with one that of line 11.
pub record Retired (lent : Lent) (x : ℕ) : Type 0 where
  pub token : token_there false (row_count lent.items) (row_count lent.literals) (name_count lent.names) x ≡ false
  pub row : (relation object : ℕ) → shape_sound (under false lent) (test_of relation) x object ≡ false

abbrev pub RetiredWords : Type 0
RetiredWords = (lent : Lent) (x : ℕ) → is_off x ≡ true → Retired lent x

-- Of a condition that is converted, with the tokens that the converter counted.
pub record Converted (lent : Lent) (tokens new : List ℕ) : Type 0 where
  -- the old rules accept the condition with a tree, and the new ones accept the new condition with the converted tree
  pub tree : Tree
  pub accepted : Accepted (under true lent) tokens tree
  pub accepted_on : Accepted (under false lent) new (converted_tree tree)
  pub tokens_are : new ≡ converted_tokens tokens
  -- "Old meaning and new meaning agree on every record and switch byte": the verdict with its refusal's number and place, and the count
  pub judges : (content : List ℕ) (switches : ℕ) → judge_gives (under false lent) new content switches ≡ judge_gives (under true lent) tokens content switches
  -- and the simple conditions judged, by their on switches
  pub visits : (content : List ℕ) (switches : ℕ) →
      (judge_walk (under false lent) new content switches).visits ≡ on_visits (judge_walk (under true lent) tokens content switches).visits
  -- "where the condition converts, both ways give one plan": the plan of the new condition, with every output, is what the converter of
  -- plans gives of the plan that the old rules wrote
  pub one_plan : (output : List ℕ) (m : ℕ) → (plan_gives (under true lent) tokens output).answer ≡ Ok m → (other : List ℕ) →
      plan_gives (under false lent) new other ≡ convert_plan_gives lent (take m (plan_gives (under true lent) tokens output).output) other

abbrev pub ConditionsConvert : Type 0
ConditionsConvert = (lent : Lent) (tokens output : List ℕ) (n : ℕ) → (convert_gives lent tokens output).answer ≡ Ok n →
    Converted lent tokens (take n (convert_gives lent tokens output).output)

-- Of a plan that is converted, with the numbers that the converter counted: run gives the same, on every record and switch byte.
pub record ConvertedRun (lent : Lent) (plan new : List ℕ) : Type 0 where
  pub numbers_are : new ≡ converted_plan plan
  pub runs : (content : List ℕ) (switches : ℕ) → run_gives (under false lent) new content switches ≡ run_gives (under true lent) plan content switches
  pub visits : (content : List ℕ) (switches : ℕ) →
      (run_walk (under false lent) new content switches).visits ≡ on_visits (run_walk (under true lent) plan content switches).visits

abbrev pub PlansConvert : Type 0
PlansConvert = (lent : Lent) (plan output : List ℕ) (n : ℕ) → (convert_plan_gives lent plan output).answer ≡ Ok n →
    ConvertedRun lent plan (take n (convert_plan_gives lent plan output).output)
