-- Document 01, "The plan": its rows, their soundness (refusal 11), and running them.
use Rattle.std.specs.Prelude.{Bool, cond, ◌&&◌, ◌||◌, List, [], ◌∷◌, ◌++◌, ℕ, zero, suc, ◌+◌, ◌*◌, ◌/◌, ◌%◌, length, get_or, eqb, leb, ltb}
use Rattle.tables.specs.declared.Refusal.TheVariants.{PlanRow as PlanFault}
use Rattle.tables.specs.declared.Verdict.{Verdict}
use Rattle.tables.specs.declared.Verdict.TheVariants.{True, False, Refused}
use Rattle.tables.specs.Operands.{Lent}
use Rattle.tables.specs.Refusals.{unless, first_failing, first_of, Check}
use Rattle.typing.specs.Tests.{test_of}
use Rattle.typing.specs.Shape.{shape_sound}
use Rattle.typing.specs.Typing.{typed}
use Rattle.grammar.specs.declared.PlanRow.{PlanRow}
use Rattle.grammar.specs.Grammar.{Tree, simple, negated, bracketed, both, either}
use Rattle.grammar.specs.Judging.{Outcomes, simple_count, when, at, Visit, visit, Walk, walk}

-- "Verdicts stand as 65,534 for false and 65,535 for true."
abbrev pub on_false : ℕ
on_false = 65534

abbrev pub on_true : ℕ
on_true = 65535

-- "One row of five numbers for each simple condition, in text order: subject token, relation, object token, target if true,
-- target if false." "Targets are those that left-to-right judging makes, whichever way the row was reached." The rows of a
-- tree, the first of which has number n: what is true goes on to y, what is false to f.
unfoldable pub rows_of : ℕ → ℕ → ℕ → Tree → List PlanRow
rows_of n y f (simple a r b) = record { subject = a; relation = r; object = b; holds = y; fails = f } ∷ []
rows_of n y f (negated t) = rows_of n f y t
rows_of n y f (bracketed t) = rows_of n y f t
rows_of n y f (both t u) = rows_of n (n + simple_count t) f t ++ rows_of (n + simple_count t) y f u
rows_of n y f (either t u) = rows_of n y (n + simple_count t) t ++ rows_of (n + simple_count t) y f u

-- the numbers of rows
unfoldable pub flat : List PlanRow → List ℕ
flat [] = []
flat (r ∷ rows) = r.subject ∷ r.relation ∷ r.object ∷ r.holds ∷ r.fails ∷ flat rows

-- the plan of a tree
unfoldable pub planned : Tree → List ℕ
planned t = flat (rows_of 0 on_true on_false t)

-- row k of a plan's numbers
unfoldable pub plan_row : List ℕ → ℕ → PlanRow
plan_row plan k =
    record {
      subject = get_or plan (k * 5) 0;
      relation = get_or plan (k * 5 + 1) 0;
      object = get_or plan (k * 5 + 2) 0;
      holds = get_or plan (k * 5 + 3) 0;
      fails = get_or plan (k * 5 + 4) 0;
    }

abbrev pub plan_rows : List ℕ → ℕ
plan_rows plan = length plan / 5

-- "A target is the row judged next, always a later one, or a verdict."
abbrev pub target_sound : ℕ → ℕ → ℕ → Bool
target_sound rows k target = (ltb k target && ltb target rows) || eqb target on_false || eqb target on_true

-- 11: a row that is as "The plan" says, with "typing kept"
unfoldable pub plan_row_sound : Lent → ℕ → ℕ → PlanRow → Bool
plan_row_sound lent rows k r =
    shape_sound lent (test_of r.relation) r.subject r.object
    && typed lent r.subject r.relation r.object
    && target_sound rows k r.holds
    && target_sound rows k r.fails

-- "plan not 1 to 128 rows of five (place 0)"
abbrev pub plan_length_sound : List ℕ → Bool
plan_length_sound plan = eqb (length plan % 5) 0 && leb 1 (plan_rows plan) && leb (plan_rows plan) 128

-- 11: "first such row"
abbrev pub plan_check : Lent → List ℕ → Check
plan_check lent plan =
    first_of (unless (plan_length_sound plan) (PlanFault 0) ∷ first_failing (λ k. plan_row_sound lent (plan_rows plan) k (plan_row plan k)) PlanFault 0 (plan_rows plan) ∷ [])

-- "A run starts at row 0 and follows targets." From target k, through at most so many rows: each target is a later row, so no
-- run of a sound plan goes through more rows than there are.
unfoldable pub follow : Outcomes → (ℕ → PlanRow) → ℕ → ℕ → Verdict
follow out row zero k = cond (eqb k on_true) True False
follow out row (suc m) k =
    cond (eqb k on_true) True
    (cond (eqb k on_false) False
    (when (at k (out (row k).subject (row k).relation (row k).object))
    (follow out row m (row k).holds)
    (follow out row m (row k).fails)
    Refused))

unfoldable pub run : Outcomes → List ℕ → Verdict
run out plan = follow out (plan_row plan) (plan_rows plan) 0

-- Document 02, i): "run's is the rows it reaches". The rows of that run, in their order, line by line as `follow`.
unfoldable pub reached : Outcomes → (ℕ → PlanRow) → ℕ → ℕ → List Visit
reached out row zero k = []
reached out row (suc m) k =
    cond (eqb k on_true) []
    (cond (eqb k on_false) []
    (visit k (row k).subject (row k).relation (row k).object
    ∷ when (at k (out (row k).subject (row k).relation (row k).object))
    (reached out row m (row k).holds)
    (reached out row m (row k).fails)
    (λ _. [])))

unfoldable pub run_visits : Outcomes → List ℕ → List Visit
run_visits out plan = reached out (plan_row plan) (plan_rows plan) 0

-- the walk of a run
abbrev pub running : Outcomes → List ℕ → Walk
running out plan = walk (run out plan) (run_visits out plan)
