-- Rows of a table by their numbers.
use mathlib.Core.Path.{◌≡◌, refl}
use mathlib.Core.Bool.{true}
use mathlib.Core.List.{List, [], ◌∷◌}
use Prim.Native.Nat.{ℕ, zero, suc, ◌+◌, ◌*◌, ◌%◌, ◌≤◌, ◌<◌}
use native.Mathlib.Omega.{arith}
use lib.Dec.{eqb, leb}
use lib.ListN.{length, get_or}
use lib.Seq.{get_or-append-add}
use borrow.Author.Tests.{eq-eqb, le-leb}
use Rattle.tables.specs.Rows.{row_count, row_at}
use Rattle.tables.specs.Tables.{length_sound}
use Rattle.tables.proofs.Tests.{and_both}
use Rattle.description.specs.Grammar.{Row}
use Rattle.description.specs.Limits.{ruled}
use Rattle.layouts.specs.Layouts.{numbers_of, row_numbers}

pub numbers-length : (rs : List Row) → length (row_numbers rs) ≡ length rs * 5
unfolding row_numbers
numbers-length [] = refl
numbers-length (r ∷ rs) = omega (arith, numbers-length rs)

pub count_is : (rs : List Row) → row_count (row_numbers rs) ≡ length rs
count_is rs = omega (arith, numbers-length rs)

pub length_sound_lem : (rs : List Row) → length rs ≤ 64 → length_sound (row_numbers rs) ≡ true
length_sound_lem rs h =
    let e = numbers-length rs in
    and_both (eqb (length (row_numbers rs) % 5) 0) (leb (length (row_numbers rs)) 320) (eq-eqb (length (row_numbers rs) % 5) 0 (omega arith))
    (le-leb (length (row_numbers rs)) 320 (omega arith))

later : (r : Row) (rs : List Row) (v j : ℕ) → get_or (row_numbers (r ∷ rs)) (suc v * 5 + j) 0 ≡ get_or (row_numbers rs) (v * 5 + j) 0
unfolding row_numbers
later r rs v j = let z : suc v * 5 + j ≡ 5 + (v * 5 + j) = omega arith in rw z (get_or-append-add (numbers_of r) (row_numbers rs) (v * 5 + j) 0)

pub row_at_lem : (rs : List Row) (v : ℕ) (d : Row) → v < length rs → row_at (row_numbers rs) v ≡ ruled (get_or rs v d)
unfolding row_numbers
row_at_lem [] v d l = absurd (omega arith)
row_at_lem (r ∷ rs) zero d l = refl
row_at_lem (r ∷ rs) (suc v) d l =
    let z : suc v * 5 + 0 ≡ suc v * 5 = omega arith in
    let y : v * 5 + 0 ≡ v * 5 = omega arith in
    let e : get_or (row_numbers (r ∷ rs)) (suc v * 5) 0 ≡ get_or (row_numbers rs) (v * 5) 0 = rw (z, y) at (later r rs v 0) in
    rw (e, later r rs v 1, later r rs v 2, later r rs v 3, later r rs v 4) (row_at_lem rs v d (omega arith))
