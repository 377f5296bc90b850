-- The plan of a well typed tree is sound: refusal 11 is never given of it.
use mathlib.Core.Path.{◌≡◌, sym, ap, ◌∙◌}
use mathlib.Core.Bool.{true, ◌&&◌, ◌||◌, or-true}
use Prim.Native.Nat.{ℕ, ◌+◌, ◌<◌, ◌≤◌, ◌%◌}
use native.Mathlib.Omega.{arith}
use lib.ListN.{length}
use lib.Dec.{eqb, ltb}
use borrow.Author.Tests.{lt-ltb, le-leb, eq-eqb}
use Rattle.tables.specs.declared.Refusal.TheVariants.{PlanRow as PlanFault, Typing}
use Rattle.tables.specs.Operands.{Lent}
use Rattle.tables.specs.Refusals.{first_failing, first_of}
use Rattle.typing.specs.Tests.{test_of}
use Rattle.typing.specs.Typing.{typed}
use Rattle.tables.proofs.Lines.{Throughout, throughout_one, throughout_join, line_last, every_sound, failing_none}
use Rattle.grammar.specs.declared.PlanRow.{PlanRow}
use Rattle.grammar.specs.Grammar.{Tree, simple, negated, bracketed, both, either}
use Rattle.grammar.specs.Judging.{simple_count}
use Rattle.grammar.specs.Typed.{typing_from}
use Rattle.typing.specs.Shape.{shape_sound}
use Rattle.grammar.specs.Plan.{on_false, on_true, rows_of, planned, plan_row, plan_rows, target_sound, plan_row_sound, plan_length_sound, plan_check}
use Rattle.grammar.proofs.Judging.{some_leaf}
use Rattle.grammar.proofs.Segment.{Stands, stands_one, stands_parts, planned-length, planned-rows, planned_stands}
use Rattle.grammar.proofs.Typed.{typing_of_rows}
use Rattle.std.specs.Prelude.{Ok}

-- each simple condition of the tree, by its subject, relation and object
abbrev pub Each : (ℕ → ℕ → ℕ → Type 0) → Tree → Type 0
Each P (simple a r b) = P a r b
Each P (negated t) = Each P t
Each P (bracketed t) = Each P t
Each P (both t u) = Each P t × Each P u
Each P (either t u) = Each P t × Each P u

-- the same of its rows, wherever they stand
pub each_row : (P : ℕ → ℕ → ℕ → Type 0) (row : ℕ → PlanRow) (n y f : ℕ) (t : Tree) → Stands row n (rows_of n y f t) → Each P t →
    Throughout (λ k. P (row k).subject (row k).relation (row k).object) n (simple_count t)
unfolding simple_count rows_of
each_row P row n y f (simple a r b) h p =
    throughout_one (λ k. P (row k).subject (row k).relation (row k).object) n
    (rw (stands_one row n (record { subject = a; relation = r; object = b; holds = y; fails = f }) h) p)
each_row P row n y f (negated t) h p = each_row P row n f y t h p
each_row P row n y f (bracketed t) h p = each_row P row n y f t h p
each_row P row n y f (both t u) h p =
    let q = stands_parts row n (n + simple_count t) f y f t u h in
    throughout_join (λ k. P (row k).subject (row k).relation (row k).object) n (simple_count t) (simple_count u)
    (each_row P row n (n + simple_count t) f t q.0 p.0) (each_row P row (n + simple_count t) y f u q.1 p.1)
each_row P row n y f (either t u) h p =
    let q = stands_parts row n y (n + simple_count t) y f t u h in
    throughout_join (λ k. P (row k).subject (row k).relation (row k).object) n (simple_count t) (simple_count u)
    (each_row P row n y (n + simple_count t) t q.0 p.0) (each_row P row (n + simple_count t) y f u q.1 p.1)

-- both targets of row k are sound, in a plan of so many rows
pub record Targets (rows k : ℕ) (r : PlanRow) : Type 0 where
  pub holds_sound : target_sound rows k r.holds ≡ true
  pub fails_sound : target_sound rows k r.fails ≡ true

-- sound as a target of every row before m
abbrev pub Exit : ℕ → ℕ → ℕ → Type 0
Exit rows m target = (k : ℕ) → k < m → target_sound rows k target ≡ true

pub exit_true : (rows m : ℕ) → Exit rows m on_true
exit_true rows m k l = rw (or-true _)

pub exit_false : (rows m : ℕ) → Exit rows m on_false
exit_false rows m k l = rw (or-true _)

pub exit_row : (rows m : ℕ) → m < rows → Exit rows m m
exit_row rows m l k h =
    let between : ltb k m && ltb m rows ≡ true = rw (lt-ltb k m h, lt-ltb m rows l) in
    ap (λ b. b || eqb m on_false || eqb m on_true) between

-- Where both exits of a tree are sound as targets of its rows, the targets inside it are too: they are later rows of the tree.
pub targets_of_rows : (rows : ℕ) (row : ℕ → PlanRow) (n y f : ℕ) (t : Tree) → Stands row n (rows_of n y f t) → n + simple_count t ≤ rows →
    Exit rows (n + simple_count t) y → Exit rows (n + simple_count t) f → Throughout (λ k. Targets rows k (row k)) n (simple_count t)
unfolding simple_count rows_of
targets_of_rows rows row n y f (simple a r b) h l p q =
    throughout_one (λ k. Targets rows k (row k)) n
    (rw (stands_one row n (record { subject = a; relation = r; object = b; holds = y; fails = f }) h)
    (record { holds_sound = p n (omega arith); fails_sound = q n (omega arith) }))
targets_of_rows rows row n y f (negated t) h l p q = targets_of_rows rows row n f y t h l q p
targets_of_rows rows row n y f (bracketed t) h l p q = targets_of_rows rows row n y f t h l p q
targets_of_rows rows row n y f (both t u) h l p q =
    let s = stands_parts row n (n + simple_count t) f y f t u h in
    throughout_join (λ k. Targets rows k (row k)) n (simple_count t) (simple_count u)
    (targets_of_rows rows row n (n + simple_count t) f t s.0 (omega arith) (exit_row rows (n + simple_count t) (omega (arith, some_leaf u))) (λ k g. q k (omega arith)))
    (targets_of_rows rows row (n + simple_count t) y f u s.1 (omega arith) (λ k g. p k (omega arith)) (λ k g. q k (omega arith)))
targets_of_rows rows row n y f (either t u) h l p q =
    let s = stands_parts row n y (n + simple_count t) y f t u h in
    throughout_join (λ k. Targets rows k (row k)) n (simple_count t) (simple_count u)
    (targets_of_rows rows row n y (n + simple_count t) t s.0 (omega arith) (λ k g. p k (omega arith)) (exit_row rows (n + simple_count t) (omega (arith, some_leaf u))))
    (targets_of_rows rows row (n + simple_count t) y f u s.1 (omega arith) (λ k g. p k (omega arith)) (λ k g. q k (omega arith)))

pub planned-length_sound : (t : Tree) → simple_count t ≤ 128 → plan_length_sound (planned t) ≡ true
planned-length_sound t l =
    rw (
      eq-eqb (length (planned t) % 5) 0 (omega (arith, planned-length t)),
      le-leb 1 (plan_rows (planned t)) (omega (arith, planned-rows t, some_leaf t)),
      le-leb (plan_rows (planned t)) 128 (omega (arith, planned-rows t)),
    )

-- each simple condition of the tree has its tokens within their tables, a relation of the grammar, and 0 where 0 is named
abbrev pub ShapedTree : Lent → Tree → Type 0
ShapedTree lent t = Each (λ a r b. shape_sound lent (test_of r) a b ≡ true) t

pub planned_sound : (lent : Lent) (t : Tree) → simple_count t ≤ 128 → typing_from lent 0 t ≡ Ok tt → ShapedTree lent t → plan_check lent (planned t) ≡ Ok tt
unfolding first_of plan_row_sound
planned_sound lent t l typing shapes =
    rw (planned-length_sound t l)
    (line_last (first_failing (λ k. plan_row_sound lent rows k (row k)) PlanFault 0 rows)
    ∙ failing_none (λ k. plan_row_sound lent rows k (row k)) PlanFault 0 rows row_sound_lem)
  where
    rows : ℕ
    rows = plan_rows (planned t)

    row : ℕ → PlanRow
    row = plan_row (planned t)

    shape : Throughout (λ k. shape_sound lent (test_of (row k).relation) (row k).subject (row k).object ≡ true) 0 (simple_count t)
    shape = each_row (λ a r b. shape_sound lent (test_of r) a b ≡ true) row 0 on_true on_false t (planned_stands t) shapes

    well_typed : Throughout (λ k. typed lent (row k).subject (row k).relation (row k).object ≡ true) 0 (simple_count t)
    well_typed k g h =
        every_sound (λ i. typed lent (row i).subject (row i).relation (row i).object) Typing (simple_count t)
        (sym (typing_of_rows lent row 0 on_true on_false t (planned_stands t)) ∙ typing) k (omega arith)

    targets : Throughout (λ k. Targets rows k (row k)) 0 (simple_count t)
    targets = targets_of_rows rows row 0 on_true on_false t (planned_stands t) (omega (arith, planned-rows t)) (exit_true rows _) (exit_false rows _)

    row_sound_lem : Throughout (λ k. plan_row_sound lent rows k (row k) ≡ true) 0 rows
    row_sound_lem k g h =
        let m : k < 0 + simple_count t = omega (arith, planned-rows t) in
        rw (shape k g m, well_typed k g m, (targets k g m).holds_sound, (targets k g m).fails_sound)
