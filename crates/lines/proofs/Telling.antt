-- Texts by number.
use mathlib.Core.Path.{◌≡◌, sym, subst}
use mathlib.Core.List.{List, [], ◌++◌}
use Prim.Native.Nat.{ℕ, ◌+◌, ◌-◌, ◌≤◌, ◌<◌}
use native.Mathlib.Omega.{arith}
use lib.ListN.{length, get_or, replicate, get_or-eq_default}
use Rattle.lines.specs.Put.{Puts}
use Rattle.lines.proofs.Joining.{put_nothing}

-- a number beyond the table has no text
pub no_text : (out : List ℕ) (at : ℕ) (table : List (List ℕ)) (n : ℕ) → length table ≤ n → Puts out at (get_or table n []) at out
no_text out at table n h = rw (get_or-eq_default table [] h) (put_nothing out at)

-- nor in a column
pub no_column : (out : List ℕ) (at : ℕ) (table : List (List ℕ)) (n : ℕ) → length table ≤ n → (width : ℕ) {end : ℕ} {after : List ℕ}
    → Puts out at (replicate width 0x20) end after → Puts out at (get_or table n [] ++ replicate (width - length (get_or table n [])) 0x20) end after
no_column out at table n h width P = let z : width - 0 ≡ width = omega arith in rw (get_or-eq_default table [] h) (rw z P)

-- one number less to be
pub past : (k n : ℕ) → k ≤ n → ¬ (n ≡ k) → k + 1 ≤ n
past k n h other = omega (arith, h, other)
