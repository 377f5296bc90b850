-- Where the records of a block stand: at a row, 0 to 127; 128 is false, 129 true, and 130 is a record of which no more is known here.
-- A truth is 0 for false, 1 for true, and any other number where it is not known here.
use Rattle.std.specs.Prelude.{cond, List, ℕ, ◌+◌, ◌<◌, ◌≤◌, get_or, eqb, ltb}

-- the first n records stand at row 0
abbrev pub start_place : ℕ → ℕ → ℕ
start_place n j = cond (ltb j n) 0 130

-- "follows targets": from a row to its target if true or if false; a record that stands elsewhere stays
abbrev pub next_place : ℕ → ℕ → ℕ → ℕ → ℕ → ℕ
next_place row holds fails place truth = cond (eqb place row) (cond (ltb truth 2) (cond (eqb truth 1) holds fails) 130) place

-- one simple condition more was judged of a record that stands at the row
abbrev pub next_count : ℕ → ℕ → ℕ → ℕ
next_count row place count = cond (eqb place row) (count + 1) count

-- no number of a block is above this
abbrev pub UpTo : ℕ → List ℕ → Type 0
UpTo most numbers = (j : ℕ) → j < 64 → get_or numbers j 0 ≤ most

-- the least of the first i places, of which none is above 130
pub record Lowest (at : List ℕ) (low i : ℕ) : Type 0 where
  pub most : low ≤ 130
  pub under : (k : ℕ) → k < i → low ≤ get_or at k 0
  pub attained : (m : ℕ) → m ≤ 130 → ((k : ℕ) → k < i → m ≤ get_or at k 0) → m ≤ low
