-- A block of records on its way through a plan.
use mathlib.Core.Path.{◌≡◌, refl, sym, ap, ◌∙◌, subst}
use mathlib.Core.Bool.{Bool, true, false, cond}
use mathlib.Core.List.{List}
use Prim.Native.Nat.{ℕ, ◌+◌, ◌<◌, ◌≤◌}
use native.Mathlib.Omega.{arith}
use lib.ListN.{get_or}
use lib.Dec.{eqb, ltb}
use borrow.Author.Tests.{eqb-true, ltb-true, eqb-false, lt-ltb, le-ltb, ne_eqb}
use Rattle.tables.specs.Operands.{Lent}
use Rattle.values.specs.Truth.{outcome}
use Rattle.grammar.specs.Judging.{Outcomes}
use Rattle.grammar.specs.Plan.{on_true, on_false, plan_row, plan_rows, running}
use Rattle.grammar.proofs.Sure.{Sure, some-rows, sure}
use Rattle.rules.specs.Calls.{told}
use Rattle.runner.proofs.Running.{readable, Going, start, goes_true, goes_false, ends_true, ends_false}
use Rattle.places.specs.Places.{start_place, next_place, next_count, UpTo, Lowest}
use Rattle.block_truths.specs.Columns.{record_at, Judgeable}
use Rattle.block_rows.specs.Judging.{Judges}
use Rattle.blocks.specs.Blocks.{place_of, Placed, Walkable, Settled, Walked}
use Rattle.blocks.proofs.Standing.{Kind, at_true, at_false, at_row, kind, target_row, target_false, target_true, later_place, leaves_row, little_more}

-- the run of a record has come to the target that stands at this place
pub record Reached (out : Outcomes) (plan : List ℕ) (place count : ℕ) : Type 0 where
  pub target : ℕ
  pub stands : place ≡ place_of target
  pub going : Going out plan target count

module _ (lent : Lent) (plan records : List ℕ) (from size n switches : ℕ) where
  -- what record j makes of simple conditions
  abbrev out : ℕ → Outcomes
  out j = outcome lent (record_at records from size j) switches

  -- between two rows: no record stands before the least place, and none has more rows behind it than there are before that place
  pub record Walking (at counts : List ℕ) (row : ℕ) : Type 0 where
    pub low : Lowest at row 64
    pub counted : UpTo row counts
    pub few : UpTo (plan_rows plan) counts
    pub idle : (j : ℕ) → n ≤ j → j < 64 → (get_or at j 0 ≡ 130) × (get_or counts j 0 ≡ 0)
    pub walked : (j : ℕ) → j < n → (get_or at j 0 ≡ 130 → ⊥) → Reached (out j) plan (get_or at j 0) (get_or counts j 0)

  module _ (W : Walkable lent plan records from size n) where
    pub few_rows : plan_rows plan ≤ 128
    few_rows = (some-rows lent plan W.sound).2

    pub known-row : {k : ℕ} → k < plan_rows plan → Sure lent (plan_rows plan) k (plan_row plan k)
    known-row {k} l = sure lent plan W.sound k l

    -- a row can be read on each record
    pub judgeable : {k : ℕ} → k < plan_rows plan → Judgeable lent records from size n (plan_row plan k)
    judgeable {k} l = record { laid = W.laid; readable = λ j b. readable lent plan (record_at records from size j) (W.runnable j b) k l }

    going_placed : {o : Outcomes} {target count : ℕ} → Going o plan target count → Placed target
    going_placed g = record { top = g.top; inside = λ b. omega (arith, g.inside b, few_rows) }

    pub begins : {at counts : List ℕ} {row : ℕ} → ((j : ℕ) → j < 64 → get_or at j 0 ≡ start_place n j) → ((j : ℕ) → j < 64 → get_or counts j 0 ≡ 0)
        → Lowest at row 64 → Walking at counts row
    begins {at} {counts} {row} a z low =
        record {
          low = low;
          counted = λ j l. omega (arith, z j l);
          few = λ j l. omega (arith, z j l);
          idle = λ j l b. (a j b ∙ rw (le-ltb j n l), z j b);
          walked = λ j l _.
              let b : j < 64 = omega (arith, W.laid.few) in
              let first : get_or at j 0 ≡ place_of 0 = a j b ∙ rw (lt-ltb j n l) in
              record { target = 0; stands = first; going = rw (z j b) (start lent plan (record_at records from size j) (W.runnable j l) (out j)) };
        }

    -- the places of row k's targets
    abbrev H : ℕ → ℕ
    H k = place_of (plan_row plan k).holds

    abbrev F : ℕ → ℕ
    F k = place_of (plan_row plan k).fails

    module _ (at counts truths at' counts' : List ℕ) (row row' : ℕ) (S : Walking at counts row) (l : row < plan_rows plan)
        (right : Judges lent records from size n switches (plan_row plan row) at row truths)
        (places : (j : ℕ) → j < 64 →
        get_or at' j 0 ≡ next_place row (H row) (F row) (get_or at j 0) (get_or truths j 0))
        (numbers : (j : ℕ) → j < 64 → get_or counts' j 0 ≡ next_count row (get_or at j 0) (get_or counts j 0)) (low : Lowest at' row' 64) where
      -- the least place rises
      rises : row < row'
      rises =
          omega (
            arith,
            low.attained (row + 1) (omega (arith, l, few_rows)) (λ k b. subst (λ (p : ℕ). row + 1 ≤ p) (sym (places k b))
                (leaves_row row (H row) (F row) (get_or at k 0) (get_or truths k 0) (omega (arith, l, few_rows)) (later_place few_rows l (known-row l).holds)
                (later_place few_rows l (known-row l).fails) (S.low.under k b))),
          )

      -- one record goes on
      steps : (j : ℕ) → j < n → (next_place row (H row) (F row) (get_or at j 0) (get_or truths j 0) ≡ 130 → ⊥)
          → Reached (out j) plan (next_place row (H row) (F row) (get_or at j 0) (get_or truths j 0)) (next_count row (get_or at j 0) (get_or counts j 0))
      steps j b = by (eqb (get_or at j 0) row) (ltb (get_or truths j 0) 2) (eqb (get_or truths j 0) 1) refl refl refl
        where
          here : get_or at j 0 ≡ row → Going (out j) plan row (get_or counts j 0)
          here e =
              let w = S.walked j b (λ z. omega (arith, e, z, l, few_rows)) in
              let t = target_row (going_placed w.going) (sym e ∙ w.stands) (omega (arith, l, few_rows)) in
              subst (λ (k : ℕ). Going (out j) plan k (get_or counts j 0)) t w.going

          by : (a c d : Bool) → eqb (get_or at j 0) row ≡ a → ltb (get_or truths j 0) 2 ≡ c → eqb (get_or truths j 0) 1 ≡ d → (cond a (cond c (cond d (H row) (F row)) 130) (get_or at j 0) ≡ 130 → ⊥)
              → Reached (out j) plan (cond a (cond c (cond d (H row) (F row)) 130) (get_or at j 0)) (cond a (get_or counts j 0 + 1) (get_or counts j 0))
          by true true true e f g _ =
              let r = (right j b (eqb-true (get_or at j 0) row e)).holds (eqb-true (get_or truths j 0) 1 g) in
              record {
                target = (plan_row plan row).holds;
                stands = refl;
                going = goes_true lent plan (record_at records from size j) (W.runnable j b) (out j) row (get_or counts j 0) (here (eqb-true (get_or at j 0) row e))
                    (omega (arith, l, few_rows)) r;
              }
          by true true false e f g _ =
              let r = (right j b (eqb-true (get_or at j 0) row e)).fails (omega (arith, ltb-true (get_or truths j 0) 2 f, eqb-false (get_or truths j 0) 1 g)) in
              record {
                target = (plan_row plan row).fails;
                stands = refl;
                going = goes_false lent plan (record_at records from size j) (W.runnable j b) (out j) row (get_or counts j 0) (here (eqb-true (get_or at j 0) row e))
                    (omega (arith, l, few_rows)) r;
              }
          by true false d e f g z = absurd (z refl)
          by false c d e f g z = S.walked j b z

      walks_on : Walking at' counts' row'
      walks_on =
          record {
            low = low;
            counted = λ j b. omega (arith, numbers j b, little_more row (get_or at j 0) (get_or counts j 0), S.counted j b, rises);
            few = λ j b. omega (arith, numbers j b, little_more row (get_or at j 0) (get_or counts j 0), S.counted j b, l);
            idle = λ j b a.
                let off = ne_eqb 130 row (λ e. omega (arith, e, l, few_rows)) in
                let i = S.idle j b a in
                (places j a ∙ rw (i.0, off), numbers j a ∙ rw (i.0, off, i.1));
            walked = λ j b z.
                let a : j < 64 = omega (arith, W.laid.few) in
                rw (places j a, numbers j a) (steps j b (λ e. z (places j a ∙ e)));
          }

      pub onward : (row < row') × Walking at' counts' row'
      onward = (rises, walks_on)

    -- no record stands at a row any more
    module _ {at counts : List ℕ} {row : ℕ} (S : Walking at counts row) (past : plan_rows plan ≤ row) where
      settled : (j : ℕ) → j < n → (128 ≤ get_or at j 0) × (get_or at j 0 ≤ 130)
      settled j b = by (eqb (get_or at j 0) 130) refl
        where
          by : (a : Bool) → eqb (get_or at j 0) 130 ≡ a → (128 ≤ get_or at j 0) × (get_or at j 0 ≤ 130)
          by true e = omega (arith, eqb-true (get_or at j 0) 130 e)
          by false e = go (kind (going_placed w.going))
            where
              w : Reached (out j) plan (get_or at j 0) (get_or counts j 0)
              w = S.walked j b (eqb-false (get_or at j 0) 130 e)

              go : Kind w.target → (128 ≤ get_or at j 0) × (get_or at j 0 ≤ 130)
              go (at_true t f) = omega (arith, w.stands, f)
              go (at_false t f) = omega (arith, w.stands, f)
              go (at_row t f) =
                  absurd (omega (arith, w.stands, f, w.going.inside (omega arith), S.low.under j (omega (arith, W.laid.few)), past))

      settled_at : (j : ℕ) → j < n → Settled (told (running (out j) plan)) (get_or at j 0) (get_or counts j 0)
      settled_at j b =
          let content = record_at records from size j in
          record {
            done = (settled j b).0;
            most = (settled j b).1;
            fails = λ e.
                let w = S.walked j b (λ z. omega (arith, e, z)) in
                sym (ends_false lent plan content (W.runnable j b) (out j) w.target (get_or counts j 0) w.going
                (target_false (going_placed w.going) w.stands e));
            holds = λ e.
                let w = S.walked j b (λ z. omega (arith, e, z)) in
                sym (ends_true lent plan content (W.runnable j b) (out j) w.target (get_or counts j 0) w.going
                (target_true (going_placed w.going) w.stands e));
          }

      pub ends : Walked lent plan records from size n switches at counts
      ends = record { settled = settled_at; others = S.idle; few = S.few }
