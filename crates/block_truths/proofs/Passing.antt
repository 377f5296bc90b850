-- Loops over the records of a block, which tell one number after the other.
use mathlib.Core.Path.{◌≡◌, refl, sym, ap, ◌∙◌}
use mathlib.Core.Bool.{Bool, true, false, false≢true}
use mathlib.Core.List.{List}
use Prim.Native.Nat.{ℕ, ◌+◌, ◌-◌, ◌*◌, ◌<◌, ◌≤◌}
use native.Mathlib.Nat.{zero-mul}
use native.Mathlib.Omega.{arith}
use lib.ListN.{length, get_or, set, drop, length-drop}
use lib.Seq.{ext_get_or, get_or-drop}
use Rattle.places.proofs.Storing.{Stored, none_stored, stores, skips}
use Rattle.block_truths.specs.Columns.{Told, Standing, Laid}
use Rattle.block_truths.proofs.Bases.{next_base}

-- j records are behind, and the next one starts at base
pub record Passing (P : ℕ → ℕ → Type 0) (from size n : ℕ) (before now : List ℕ) (base j : ℕ) : Type 0 where
  pub most : j ≤ n
  pub starts : base ≡ from + j * size
  pub stored : Stored P before now j

pub sets_out : (P : ℕ → ℕ → Type 0) (from size n : ℕ) (before : List ℕ) → Passing P from size n before before from 0
sets_out P from size n before = record { most = omega arith; starts = omega (arith, zero-mul size); stored = none_stored P before }

module _ {P : ℕ → ℕ → Type 0} {records before now : List ℕ} {from size n base j : ℕ} (L : Laid records from size n) (room : length before ≡ 64)
    (S : Passing P from size n before now base j) where
  -- what may be stored next
  pub has_room : j < n → j < length now
  has_room l = omega (arith, S.stored.long, L.few, room)

  -- a number is told, or stays as it was
  pub tells : j < n → {v : ℕ} → P j v → Passing P from size n before (set now j v) (base + size) (j + 1)
  tells l p =
      record {
        most = omega arith;
        starts = next_base from j size S.starts;
        stored = stores P before S.stored (omega (arith, L.few, room)) p;
      }

  pub leaves : j < n → P j (get_or before j 0) → Passing P from size n before now (base + size) (j + 1)
  leaves l p =
      record {
        most = omega arith;
        starts = next_base from j size S.starts;
        stored = skips P before S.stored (rw (S.stored.left j (omega arith)) p);
      }

-- a record that stands at a place, or elsewhere
module _ {at before : List ℕ} {place k : ℕ} {P : ℕ → ℕ → Type 0} where
  pub at_place : {v : ℕ} → get_or at k 0 ≡ place → P k v → Standing at place P before k v
  at_place e p = record { here = λ _. p; elsewhere = λ n. absurd (n e) }

  pub off_place : (get_or at k 0 ≡ place → ⊥) → Standing at place P before k (get_or before k 0)
  off_place n = record { here = λ e. absurd (n e); elsewhere = λ _. refl }

-- none is left
pub all_told : {P : ℕ → ℕ → Type 0} {before now : List ℕ} {from size n base j : ℕ} → Passing P from size n before now base j → n ≤ j → Told n P before now
all_told {P} {before} {now} {from} {size} {n} {base} {j} S past =
    record {
      told = λ k l. S.stored.done k (omega (arith, S.most));
      rest = ext_get_or 0 (drop n now) (drop n before) (length-drop n now ∙ ap (λ (m : ℕ). m - n) S.stored.long ∙ sym (length-drop n before))
          (λ i l. get_or-drop n now i 0 ∙ S.stored.left (n + i) (omega (arith, S.most)) ∙ sym (get_or-drop n before i 0));
    }

-- the numbers are those that are to be told, or others as good
pub retold : {P Q : ℕ → ℕ → Type 0} {n : ℕ} {before after : List ℕ} → Told n P before after → ((k : ℕ) → k < n → (v : ℕ) → P k v → Q k v) → Told n Q before after
retold {P} {Q} {n} {before} {after} t f = record { told = λ k l. f k l (get_or after k 0) (t.told k l); rest = t.rest }

pub retold_at : {P Q : ℕ → ℕ → Type 0} {n place : ℕ} {at before after : List ℕ} → Told n (Standing at place P before) before after
    → ((k : ℕ) → k < n → (v : ℕ) → P k v → Q k v) → Told n (Standing at place Q before) before after
retold_at t f = retold t (λ k l v s. record { here = λ e. f k l v (s.here e); elsewhere = s.elsewhere })

-- what a function answers that may judge a row: it is judged, or nothing changes
module _ {P Q : Type 0} {answer due : Bool} where
  pub judged : answer ≡ due → answer ≡ true → P → (answer ≡ true → P) × ((answer ≡ false → Q) × (answer ≡ due))
  judged e t p = (λ _. p, (λ f. absurd (false≢true (sym f ∙ t)), e))

  pub unjudged : answer ≡ due → answer ≡ false → Q → (answer ≡ true → P) × ((answer ≡ false → Q) × (answer ≡ due))
  unjudged e f q = (λ t. absurd (false≢true (sym f ∙ t)), (λ _. q, e))
