-- Document 02, n): marks of the item rows that simple conditions name, one mark for each row of the item table.
use Rattle.std.specs.Prelude.{◌≡◌, true, cond, ℕ, ◌<◌, get_or, set, eqb}
use mathlib.Core.List.{List, [], ◌∷◌, Memᴰ}
use Rattle.tables.specs.Operands.{Lent, lend_names}
use Rattle.tables.specs.declared.Outcome.{Outcome}
use Rattle.tables.specs.declared.Outcome.TheVariants.{True, False, Stopped}
use Rattle.tables.specs.Tokens.{is_name, index_of}
use Rattle.tables.specs.Rows.{name_count}
use Rattle.typing.specs.declared.Test.TheVariants.{Alone}
use Rattle.typing.specs.Tests.{test_of}
use Rattle.grammar.specs.declared.PlanRow.{PlanRow}
use Rattle.grammar.specs.Plan.{on_false, plan_row, plan_rows}
use Rattle.rules.specs.Footprint.{rows_asked}

-- the marks once each of these rows is marked
unfoldable pub marked : List ℕ → List ℕ → List ℕ
marked marks [] = marks
marked marks (row ∷ rows) = marked (set marks row 1) rows

-- what row v lists: itself, where it is marked
abbrev pub marked_row : List ℕ → ℕ → List ℕ
marked_row marks v = cond (eqb (get_or marks v 0) 0) [] (v ∷ [])

-- what a function needs to know of the tables to tell the rows of a simple condition: the names
abbrev pub lent_names : List ℕ → Lent
lent_names names = lend_names [] [] [] names

-- each of these rows is below a number
abbrev pub AllBelow : ℕ → List ℕ → Type 0
AllBelow n rows = (row : ℕ) → Memᴰ row rows → row < n

-- what marking a simple condition needs: a condition-name is one of the table, and each item row has one of so many marks
pub record Markable (names : List ℕ) (marks subject relation object : ℕ) : Type 0 where
  pub named : test_of relation ≡ Alone → is_name subject ≡ true → index_of subject < name_count names
  pub room : AllBelow marks (rows_asked (lent_names names) (test_of relation) subject object)

-- the same of every row of a plan
abbrev pub AllMarkable : List ℕ → ℕ → List ℕ → Type 0
AllMarkable names marks plan = (k : ℕ) → k < plan_rows plan → Markable names marks (plan_row plan k).subject (plan_row plan k).relation (plan_row plan k).object

-- the item rows of row k of a plan
abbrev pub rows_at : Lent → List ℕ → ℕ → List ℕ
rows_at lent plan k = rows_asked lent (test_of (plan_row plan k).relation) (plan_row plan k).subject (plan_row plan k).object

-- where a run goes after a row; after a stop it goes nowhere, as after a verdict
abbrev pub next : PlanRow → Outcome → ℕ
next row True = row.holds
next row False = row.fails
next row (Stopped stop) = on_false
