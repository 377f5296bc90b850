-- Document 02, n), "which bytes a rule can depend on": the whole answers of the calls that list what a rule looks at, for every input.
use Rattle.std.specs.Prelude.{Bool, false, cond, ◌||◌, List, [], ◌∷◌, ◌++◌, ℕ, eqb}
use Rattle.tables.specs.Operands.{Lent}
use Rattle.tables.specs.Rows.{row_count}
use Rattle.tables.specs.Refusals.{first_of, Check}
use Rattle.tables.specs.Tables.{record_check}
use Rattle.items.specs.Items.{listed}
use Rattle.typing.specs.Tests.{test_of}
use Rattle.values.specs.Names.{lent_lines}
use Rattle.grammar.specs.Grammar.{Tree, simple, negated, bracketed, both, either}
use Rattle.grammar.specs.Plan.{plan_check}
use Rattle.rules.specs.Calls.{condition_lines, room_check, Gives, writes, writing, judge_walk, run_walk}
use Rattle.rules.specs.Footprint.{rows_asked, footprint}

-- whether a row is among these
unfoldable pub is_among : ℕ → List ℕ → Bool
is_among v [] = false
is_among v (row ∷ rows) = eqb v row || is_among v rows

-- the rows of the item table, each in its turn, that are among these: in rising order, each once
abbrev pub rising : List ℕ → List ℕ → List ℕ
rising items rows = listed (λ v. cond (is_among v rows) (v ∷ []) []) (row_count items)

-- "the items named in the simple conditions judged (an omitted subject and a condition-name's item too)": on this record, one that stops
-- among them; of a sequence or a record that is refused, none
abbrev pub looked_at : Lent → List ℕ → List ℕ → ℕ → List ℕ
looked_at lent tokens content switches = rising lent.items (footprint lent (judge_walk lent tokens content switches).visits)

-- the same of the rows that a run of a plan reaches
abbrev pub looked_at_plan : Lent → List ℕ → List ℕ → ℕ → List ℕ
looked_at_plan lent plan content switches = rising lent.items (footprint lent (run_walk lent plan content switches).visits)

-- every item that a condition names, in a simple condition that is judged on some record or not
unfoldable pub named_rows : Lent → Tree → List ℕ
named_rows lent (simple a r b) = rows_asked lent (test_of r) a b
named_rows lent (negated t) = named_rows lent t
named_rows lent (bracketed t) = named_rows lent t
named_rows lent (both t u) = named_rows lent t ++ named_rows lent u
named_rows lent (either t u) = named_rows lent t ++ named_rows lent u

abbrev pub named_items : Lent → Tree → List ℕ
named_items lent t = rising lent.items (named_rows lent t)

-- judge's refusals that are no stops: 1 to 9, 18 and 12
abbrev pub judge_lines : Lent → List ℕ → List ℕ → List Check
judge_lines lent tokens content = condition_lines lent tokens ++ record_check lent content ∷ []

-- run's: 1 to 4, 18, 11 and 12
abbrev pub run_lines : Lent → List ℕ → List ℕ → List Check
run_lines lent plan content = lent_lines lent ++ plan_check lent plan ∷ record_check lent content ∷ []

-- these rows in the output, after the lines that refuse, and then 10
abbrev pub listing : List Check → List ℕ → List ℕ → Gives
listing lines rows output = writes (first_of (lines ++ room_check rows output ∷ [])) rows output

-- looked_at: judge's refusals, then 10; of a condition that stops, 13 or 17, the items are listed
unfoldable pub looked_gives : Lent → List ℕ → List ℕ → ℕ → List ℕ → Gives
looked_gives lent tokens content switches output = listing (judge_lines lent tokens content) (looked_at lent tokens content switches) output

-- looked_at_plan: run's refusals, then 10
unfoldable pub looked_plan_gives : Lent → List ℕ → List ℕ → ℕ → List ℕ → Gives
looked_plan_gives lent plan content switches output = listing (run_lines lent plan content) (looked_at_plan lent plan content switches) output

-- named_items: plan's refusals, 1 to 9 and 18, then 10
unfoldable pub named_gives : Lent → List ℕ → List ℕ → Gives
named_gives lent tokens output = writing (named_items lent) lent tokens output
