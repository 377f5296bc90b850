-- Document 02, n): what a rule may look at.
use Rattle.std.specs.Prelude.{◌≡◌, cond, ℕ, length}
use mathlib.Core.List.{List, [], ◌∷◌, ◌++◌, Memᴰ}
use Rattle.tables.specs.Tokens.{is_item, is_name, index_of}
use Rattle.tables.specs.Rows.{row_at, part}
use Rattle.tables.specs.Operands.{Lent}
use Rattle.tables.specs.Names.{name_item}
use Rattle.typing.specs.declared.Test.{Test}
use Rattle.typing.specs.declared.Test.TheVariants.{Alone, Relation, Class, Sign, Unknown}
use Rattle.typing.specs.Tests.{test_of}
use Rattle.grammar.specs.Judging.{Visit}
use Rattle.rules.specs.Calls.{judge_walk, run_walk}

-- the rows of the items among operands
unfoldable pub items_among : List ℕ → List ℕ
items_among [] = []
items_among (x ∷ operands) = cond (is_item x) (index_of x ∷ items_among operands) (items_among operands)

-- The item rows of a simple condition, "an omitted subject and a condition-name's item too": a visit has the subject, and the name table
-- the item. The 0 that stands where there is no object is no operand, although token 0 is item 0.
abbrev pub rows_asked : Lent → Test → ℕ → ℕ → List ℕ
rows_asked lent Alone subject object = cond (is_name subject) (name_item lent.names (index_of subject) ∷ []) []
rows_asked lent (Relation word negated) subject object = items_among (subject ∷ object ∷ [])
rows_asked lent (Class word negated) subject object = items_among (subject ∷ [])
rows_asked lent (Sign word negated) subject object = items_among (subject ∷ [])
rows_asked lent Unknown subject object = []

abbrev pub rows_of_visit : Lent → Visit → List ℕ
rows_of_visit lent v = rows_asked lent (test_of v.relation) v.subject v.object

-- "the items named in the simple conditions judged", as rows of the item table
unfoldable pub footprint : Lent → List Visit → List ℕ
footprint lent [] = []
footprint lent (v ∷ visits) = rows_of_visit lent v ++ footprint lent visits

-- two records "agree on the items": each holds the same bytes in both
abbrev pub Agree : Lent → List ℕ → List ℕ → List ℕ → Type 0
Agree lent rows content other =
    (row : ℕ) → Memᴰ row rows → part (row_at lent.items row) content ≡ part (row_at lent.items row) other

-- "two records of equal length which agree on the items named in the simple conditions judged on the first .. give the same answer,
-- count, place and byte, with tables, literals and switch byte the same": the whole walk is the same, so the simple conditions judged
-- are too. Of judge for every sequence of tokens, of run for every list of numbers, refused or not.
pub record LooksAt (lent : Lent) (content other : List ℕ) (switches : ℕ) : Type 0 where
  pub judge : (tokens : List ℕ) → Agree lent (footprint lent (judge_walk lent tokens content switches).visits) content other →
      judge_walk lent tokens content switches ≡ judge_walk lent tokens other switches
  pub run : (plan : List ℕ) → Agree lent (footprint lent (run_walk lent plan content switches).visits) content other →
      run_walk lent plan content switches ≡ run_walk lent plan other switches

abbrev pub LooksAtItsItems : Type 0
LooksAtItsItems = (lent : Lent) (content other : List ℕ) (switches : ℕ) → length content ≡ length other → LooksAt lent content other switches
