-- What a sound plan says of its rows.
use mathlib.Core.Path.{◌≡◌}
use mathlib.Core.Bool.{true, ◌&&◌, ◌||◌}
use mathlib.Core.List.{List}
use mathlib.Core.Logic.{⊎_elim}
use Prim.Native.Nat.{ℕ, ◌%◌, ◌<◌, ◌≤◌}
use native.Mathlib.Omega.{arith}
use lib.ListN.{length}
use lib.Dec.{eqb, leb, ltb}
use borrow.Author.Tests.{ltb-true, eqb-true, leb-true}
use Rattle.tables.specs.Operands.{Lent}
use Rattle.tables.proofs.Lines.{lines_sound, every_sound, test_sound}
use Rattle.tables.proofs.Tests.{both, four, either}
use Rattle.typing.specs.Tests.{test_of}
use Rattle.typing.specs.Shape.{shape_sound}
use Rattle.typing.specs.Typing.{typed}
use Rattle.grammar.specs.declared.PlanRow.{PlanRow}
use Rattle.grammar.specs.Plan.{on_true, on_false, plan_row, plan_rows, plan_length_sound, plan_row_sound, plan_check, target_sound}
use Rattle.std.specs.Prelude.{Ok}

-- a target of row k, in a plan of so many rows: a later row, or a verdict
pub record Later (rows k target : ℕ) : Type 0 where
  pub after : k < target
  pub inside : target < on_false → target < rows
  pub top : target ≤ on_true

later : (rows k target : ℕ) → rows ≤ 128 → k < rows → target_sound rows k target ≡ true → Later rows k target
later rows k target few here e =
    ⊎_elim
    (λ h. ⊎_elim
    (λ i.
    let p = both (ltb k target) (ltb target rows) i in
    let q = ltb-true k target p.0 in
    let r = ltb-true target rows p.1 in
    record { after = q; inside = λ _. r; top = omega arith })
    (λ i. let z = eqb-true target on_false i in record { after = omega arith; inside = λ l. absurd (omega arith); top = omega arith })
    (either (ltb k target && ltb target rows) (eqb target on_false) h))
    (λ h. let z = eqb-true target on_true h in record { after = omega arith; inside = λ l. absurd (omega arith); top = omega arith })
    (either (ltb k target && ltb target rows || eqb target on_false) (eqb target on_true) e)

-- what a sound plan says of its row k
pub record Sure (lent : Lent) (rows k : ℕ) (r : PlanRow) : Type 0 where
  pub shape : shape_sound lent (test_of r.relation) r.subject r.object ≡ true
  pub well : typed lent r.subject r.relation r.object ≡ true
  pub holds : Later rows k r.holds
  pub fails : Later rows k r.fails

module _ (lent : Lent) (plan : List ℕ) (p : plan_check lent plan ≡ Ok tt) where
  pub lines : (plan_length_sound plan ≡ true) × ((k : ℕ) → k < plan_rows plan → plan_row_sound lent (plan_rows plan) k (plan_row plan k) ≡ true)
  lines = let s = lines_sound _ p in (test_sound _ _ s.0, every_sound _ _ _ s.1.0)

  pub some-rows : (length plan % 5 ≡ 0) × (1 ≤ plan_rows plan) × (plan_rows plan ≤ 128)
  some-rows =
      let h = both (eqb (length plan % 5) 0 && leb 1 (plan_rows plan)) (leb (plan_rows plan) 128) lines.0 in
      let g = both (eqb (length plan % 5) 0) (leb 1 (plan_rows plan)) h.0 in
      (eqb-true _ _ g.0, leb-true _ _ g.1, leb-true _ _ h.1)

  pub sure : (k : ℕ) → k < plan_rows plan → Sure lent (plan_rows plan) k (plan_row plan k)
  unfolding plan_row_sound
  sure k h =
      let s = some-rows in
      let f = four _ _ _ _ (lines.1 k h) in
      record { shape = f.0; well = f.1; holds = later _ k _ s.2 h f.2; fails = later _ k _ s.2 h f.3 }
