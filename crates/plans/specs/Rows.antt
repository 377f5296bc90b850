-- What the functions that write a plan's rows promise.
use Rattle.std.specs.Prelude.{◌≡◌, cond, List, ◌++◌, map, ℕ, zero, suc, ◌+◌, ◌*◌, ◌-◌, take, drop, eqb}
use Rattle.grammar.specs.declared.PlanRow.{PlanRow}
use Rattle.grammar.specs.Grammar.{simple}
use Rattle.grammar.specs.Plan.{on_true, on_false, rows_of, flat}

-- a verdict becomes the target that it leads to
unfoldable pub aim : ℕ → ℕ → ℕ → ℕ
aim y f target = cond (eqb target on_true) y (cond (eqb target on_false) f target)

unfoldable pub retargeted : ℕ → ℕ → PlanRow → PlanRow
retargeted y f r =
    record { subject = r.subject; relation = r.relation; object = r.object; holds = aim y f r.holds; fails = aim y f r.fails }

-- The numbers of a buffer, of which the first n rows are retargeted, whatever rows stand there: subject, relation and object
-- stay, and so does all that follows the rows.
unfoldable pub turn : ℕ → ℕ → ℕ → List ℕ → List ℕ
turn y f zero numbers = numbers
turn y f (suc n) numbers = take 3 numbers ++ map (aim y f) (take 2 (drop 3 numbers)) ++ turn y f n (drop 5 numbers)

-- the whole buffer, of which rows `from` to `end` are retargeted and every other number is as it was
abbrev pub Turned : ℕ → ℕ → ℕ → List ℕ → List ℕ → ℕ → Type 0
Turned y f end after before from = after ≡ take (from * 5) before ++ turn y f (end - from) (drop (from * 5) before)

-- the whole buffer, with row number `row` in it, whose targets are the verdicts; every other number is as it was
abbrev pub Added : ℕ → List ℕ → ℕ → ℕ → ℕ → List ℕ → Type 0
Added row before a n b after =
    after ≡ take (row * 5) before ++ flat (rows_of row on_true on_false (simple a n b)) ++ drop ((row + 1) * 5) before
