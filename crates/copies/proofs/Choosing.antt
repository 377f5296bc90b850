-- Laws for the code of the merge: which content an item takes, and how the list of rows grows. Assumes nothing.
use Prim.Native.Nat.{ℕ, zero, suc, ◌+◌, ◌-◌, ◌≤◌, ◌<◌}
use native.Mathlib.Omega.{arith}
use native.Mathlib.Numerals.{add-one}
use native.Mathlib.Decide.{dec_lt}
use mathlib.Core.Path.{◌≡◌, refl, sym, ap, ◌∙◌}
use mathlib.Core.List.{List, [], ◌∷◌, ◌++◌, append-nil}
use mathlib.Core.Bool.{Bool, true, false, cond, not, ◌&&◌}
use lib.ListN.{length, drop, set, length-append}
use lib.Seq.{drop-cons, set_at, append_snoc}
use Rattle.tables.specs.declared.Verdict.{Verdict}
use Rattle.items.specs.Items.{same, listed}
use Rattle.merging.specs.Merge.{decided, changed_apart, merged_item}
use Rattle.merging.proofs.Rows.{entry_of}

module _ (verdict : Verdict) (old first second : List ℕ) where
  pub pick_second : same first old ≡ true → second ≡ merged_item verdict old first second
  unfolding merged_item
  pick_second e = rw e

  pub pick_first : same first old ≡ false → same second old ≡ true → first ≡ merged_item verdict old first second
  unfolding merged_item
  pick_first e f = rw (e, f)

  pub pick_alike : same first old ≡ false → same second old ≡ false → same first second ≡ true → first ≡ merged_item verdict old first second
  unfolding merged_item
  pick_alike e f g = rw (e, f, g)

  pub pick_decided : same first old ≡ false → same second old ≡ false → same first second ≡ false
      → decided verdict old first second ≡ merged_item verdict old first second
  unfolding merged_item
  pick_decided e f g = rw (e, f, g)

pub apart_flags : (old first second : List ℕ) {a b c : Bool} → a ≡ same first old → b ≡ same second old → c ≡ same first second
    → not a && not b && not c ≡ changed_apart old first second
unfolding changed_apart
apart_flags old first second p q r = rw (p, q, r)

-- the rows that pass a test, in row order
abbrev pub rows_where : (ℕ → Bool) → ℕ → List ℕ
rows_where test n = listed (entry_of test) n

-- one row more of a list of rows
module _ (test : ℕ → Bool) (v : ℕ) where
  pub rows_hit : test v ≡ true → rows_where test (v + 1) ≡ rows_where test v ++ v ∷ []
  unfolding listed
  rows_hit e = rw (add-one, e)

  pub rows_miss : test v ≡ false → rows_where test (v + 1) ≡ rows_where test v
  unfolding listed
  rows_miss e = rw (add-one, e) (append-nil (rows_where test v))

  pub count_hit : test v ≡ true → length (rows_where test (v + 1)) ≡ length (rows_where test v) + 1
  count_hit e = ap length (rows_hit e) ∙ length-append (rows_where test v) (v ∷ [])

-- the list only grows
pub rows_grow : (test : ℕ → Bool) (v n : ℕ) → v ≤ n → length (rows_where test v) ≤ length (rows_where test n)
unfolding listed
rows_grow test v zero h = let e : v ≡ 0 = omega arith in rw e (omega arith)
rows_grow test v (suc n) h = by (dec_lt v (suc n)) (λ g. rows_grow test v n g)
  where
    by : Dec (v < suc n) → (v ≤ n → length (rows_where test v) ≤ length (rows_where test n))
        → length (rows_where test v) ≤ length (rows_where test n ++ cond (test n) (n ∷ []) [])
    by (yes g) rest = omega (arith, rest (omega arith), length-append (rows_where test n) (cond (test n) (n ∷ []) []))
    by (no g) rest = let e : v ≡ suc n = omega arith in rw e (omega arith)

-- a list of which the first numbers are written: a row put behind them
pub list_put : (list written : List ℕ) (v : ℕ) → length written < length list
    → set (written ++ drop (length written) list) (length written) v ≡ (written ++ v ∷ []) ++ drop (length written + 1) list
list_put list written v h =
    let n : ℕ = length written in
    ap (λ (l : List ℕ). set (written ++ l) n v) (drop-cons list n 0 h)
    ∙ set_at written _ (drop (suc n) list) v n refl
    ∙ sym (append_snoc written v (drop (suc n) list))
    ∙ rw add-one refl

-- an item of parts that are others' parts
pub chosen_from : (verdict : Verdict) {o f s old first second : List ℕ} → o ≡ old → f ≡ first → s ≡ second
    → merged_item verdict o f s ≡ merged_item verdict old first second
chosen_from verdict p q r = cc
