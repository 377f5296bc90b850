-- Document 02, l): "Switch-off words go." Conditions and plans of the old rules, written with switch-on words only.
use Rattle.std.specs.Prelude.{Bool, true, false, cond, not, List, [], ◌∷◌, ◌++◌, ℕ, zero, suc, ◌-◌, eqb}
use Rattle.tables.specs.Tokens.{is_off}
use Rattle.tables.specs.Words.{NOT}
use Rattle.grammar.specs.declared.PlanRow.{PlanRow}
use Rattle.grammar.specs.Grammar.{Tree, simple, negated, bracketed, both, either}
use Rattle.grammar.specs.Judging.{Visit, visit}
use Rattle.grammar.specs.Plan.{flat, plan_row, plan_rows}

-- "the on token" of an off token: kind 2 for kind 3
abbrev pub on_token : ℕ → ℕ
on_token token = token - 65536

-- the word NOT, or nothing
abbrev pub not_if : Bool → List ℕ
not_if true = NOT ∷ []
not_if false = []

-- "NOT before an off token becomes the on token alone, a bare off token becomes NOT and the on token": the tokens that come after a
-- NOT which is not written yet (`true`), or after none. Every other NOT is written where it stands.
unfoldable pub only_on : Bool → List ℕ → List ℕ
only_on waits [] = not_if waits
only_on waits (x ∷ tokens) =
    cond (is_off x) (not_if (not waits) ++ on_token x ∷ only_on false tokens)
    (cond (eqb x NOT) (not_if waits ++ only_on true tokens)
    (not_if waits ++ x ∷ only_on false tokens))

abbrev pub converted_tokens : List ℕ → List ℕ
converted_tokens tokens = only_on false tokens

-- the same of a tree
abbrev pub negated_if : Bool → Tree → Tree
negated_if true t = negated t
negated_if false t = t

unfoldable pub tree_on : Bool → Tree → Tree
tree_on waits (simple a r b) = cond (is_off a) (negated_if (not waits) (simple (on_token a) r b)) (negated_if waits (simple a r b))
tree_on waits (negated t) = negated_if waits (tree_on true t)
tree_on waits (bracketed t) = negated_if waits (bracketed (tree_on false t))
tree_on waits (both t u) = negated_if waits (both (tree_on false t) (tree_on false u))
tree_on waits (either t u) = negated_if waits (either (tree_on false t) (tree_on false u))

abbrev pub converted_tree : Tree → Tree
converted_tree t = tree_on false t

-- a simple condition that was judged, by the on switch
abbrev pub on_visit : Visit → Visit
on_visit v = visit v.number (cond (is_off v.subject) (on_token v.subject) v.subject) v.relation v.object

unfoldable pub on_visits : List Visit → List Visit
on_visits [] = []
on_visits (v ∷ visits) = on_visit v ∷ on_visits visits

-- "converted by naming the on switch and exchanging that row's targets"
unfoldable pub on_row : PlanRow → PlanRow
on_row r =
    cond (is_off r.subject)
    (record { subject = on_token r.subject; relation = r.relation; object = r.object; holds = r.fails; fails = r.holds })
    r

unfoldable pub on_rows : List PlanRow → List PlanRow
on_rows [] = []
on_rows (r ∷ rows) = on_row r ∷ on_rows rows

-- n rows of a plan, from row k on
unfoldable pub rows_from : (ℕ → PlanRow) → ℕ → ℕ → List PlanRow
rows_from row k zero = []
rows_from row k (suc n) = row k ∷ rows_from row (suc k) n

unfoldable pub converted_plan : List ℕ → List ℕ
converted_plan plan = flat (on_rows (rows_from (plan_row plan) 0 (plan_rows plan)))
