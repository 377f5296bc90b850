-- What is lent to the calls, and the plan that is kept: "What is written is the plan to run from now on."
use Rattle.std.specs.Prelude.{cond, List, ℕ, leb, take, replicate, Err, Ok}
use Rattle.tables.specs.Operands.{Lent, lend_names}
use Rattle.rules.specs.Calls.{Gives, plan_gives}
use Rattle.cases.specs.Stores.{part_in, kept_as}
use Rattle.tables.specs.Refusals.{Written}

-- items, literals, their bytes and names
abbrev pub lent_in : List ℕ → List ℕ → Lent
lent_in store bytes = lend_names (part_in store 0) (part_in store 2048) bytes (part_in store 6144)

abbrev pub tokens_in : List ℕ → List ℕ
tokens_in store = part_in store 8192

abbrev pub kept_of : List ℕ → Written → List ℕ → List ℕ
kept_of store (Ok n) output = kept_as store 12288 (take n output)
kept_of store (Err refusal) output = store

abbrev pub plan_kept : List ℕ → Gives → List ℕ
plan_kept store gives = kept_of store gives.answer gives.output

-- with an output of so many numbers, each 7, and at most 700
abbrev pub planned_in : List ℕ → List ℕ → ℕ → List ℕ
planned_in store bytes room = cond (leb room 700) (plan_kept store (plan_gives (lent_in store bytes) (tokens_in store) (replicate room 7))) store
