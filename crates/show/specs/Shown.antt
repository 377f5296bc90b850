-- Demand 3 of what the calls returned: a plan, its run, the expanded form, and the plan of that.
use Rattle.std.specs.Prelude.{◌≡◌, List, ℕ, ◌≤◌, length, take, Result, Ok, Err}
use Rattle.tables.specs.declared.Judged.{Judged}
use Rattle.tables.specs.declared.Refusal.{Refusal}
use Rattle.tables.specs.Operands.{Lent}
use Rattle.grammar.specs.Grammar.{Tree}
use Rattle.grammar.specs.Expanded.{expanded}
use Rattle.grammar.specs.Plan.{planned}
use Rattle.show.specs.declared.Shown.{Shown}
use Rattle.rules.specs.Calls.{Leaves, expand_gives, plan_gives}
use Rattle.rules.specs.Demands.{Accepted, rules_answer}
use Rattle.tables.specs.Refusals.{Written}

-- The plan of the expanded form that was counted; without one its refusal, and an unchanged output.
abbrev pub Replans : Lent → List ℕ → Written → List ℕ → Written → List ℕ → Type 0
Replans lent second (Ok n) form_after again second_after = Leaves (plan_gives lent (take n form_after) second) again second_after
Replans lent second (Err refusal) form_after again second_after = (again ≡ Err refusal) × (second_after ≡ second)

module _ (lent : Lent) (tokens content : List ℕ) (switches : ℕ) (rows form second : List ℕ) where
  -- The plan counted so many numbers, which stand in its output, and was run; the tokens were expanded, and the expanded form was
  -- planned into the second output.
  pub record ShownCalls (count : ℕ) (judged : Judged) (formed again : Written) (rows_after form_after second_after : List ℕ) : Type 0 where
    -- what each writing call gave, with every number of its output
    pub plan : Leaves (plan_gives lent tokens rows) (Ok count) rows_after
    pub expand : Leaves (expand_gives lent tokens form) formed form_after
    pub replan : Replans lent second formed form_after again second_after
    -- demand 3 of it
    pub tree : Tree
    pub accepted : Accepted lent tokens tree
    pub counts : count ≡ length (planned tree)
    pub plans : take count rows_after ≡ planned tree
    pub runs : judged ≡ rules_answer lent content switches tree
    pub expands : length (expanded tree) ≤ length form →
        (formed ≡ Ok (length (expanded tree))) × (take (length (expanded tree)) form_after ≡ expanded tree)
    pub plans_again : length (expanded tree) ≤ length form → length (expanded tree) ≤ 256 → count ≤ length second →
        (again ≡ Ok count) × (take count second_after ≡ take count rows_after)

  abbrev pub Shows : Result Shown Refusal → List ℕ → List ℕ → List ℕ → Type 0
  Shows (Err refusal) rows_after form_after second_after =
      Leaves (plan_gives lent tokens rows) (Err refusal) rows_after × (form_after ≡ form) × (second_after ≡ second)
  Shows (Ok s) rows_after form_after second_after =
      ShownCalls s.count s.judged s.expanded s.again rows_after form_after second_after
