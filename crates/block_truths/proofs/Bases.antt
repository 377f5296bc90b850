-- From one record of a block to the next.
use mathlib.Core.Path.{◌≡◌, ap}
use mathlib.Core.List.{List}
use Prim.Native.Nat.{ℕ, ◌+◌, ◌*◌, ◌<◌, ◌≤◌}
use native.Mathlib.Nat.{suc-mul}
use native.Mathlib.Numerals.{add-one}
use native.Mathlib.Omega.{arith}
use lib.ListN.{length}
use Rattle.block_truths.specs.Columns.{Laid, Field, There}

-- the next record starts where this one ends
pub next_base : {base : ℕ} (from j size : ℕ) → base ≡ from + j * size → base + size ≡ from + (j + 1) * size
next_base {base} from j size e = omega (arith, e, suc-mul j size, ap (λ (k : ℕ). k * size) (add-one j))

module _ {records : List ℕ} {from size n : ℕ} (L : Laid records from size n) {base j : ℕ} (e : base ≡ from + j * size) (l : j < n) where
  -- it ends in the file
  pub ends_inside : base + size ≤ length records
  ends_inside = omega (arith, e, L.within j l)

  -- and so does a field of it, which ends far enough from the file's start
  pub field_there : {end width : ℕ} → 8 ≤ from → Field size end width → There (length records) base end width
  field_there after f =
      record { some = f.some; most = f.most; after = omega (arith, e, f.some, f.most); inside = omega (arith, e, ends_inside, f.inside) }
