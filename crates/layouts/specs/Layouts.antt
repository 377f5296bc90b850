-- Rows of the entries in a buffer.
use Rattle.std.specs.Prelude.{◌≡◌, Bool, cond, List, [], ◌∷◌, ◌++◌, map, Option, Some, None, ℕ, suc, ◌+◌, ◌*◌, ◌-◌, ◌≤◌, length, drop}
use Rattle.std.proofs.Math.Option as maybe
use Rattle.std.proofs.Math.Option.{none, some}
use Rattle.description.specs.Grammar.{Row, row, Entry, is_signed}
use Rattle.description.specs.Reader.{size_of, below, signed_below, row_of, layout}
use Rattle.description.specs.Limits.{over}
use Rattle.entries.specs.Entries.{entry_of}
use Rattle.noting.specs.Stored.{noted_at, noted_from}
use Rattle.layouts.specs.declared.ItemRow.{ItemRow}
use Rattle.content.specs.Kinds.{row_width}

abbrev pub shown_row : ItemRow → Row
shown_row r = row r.kind r.offset r.size r.scale r.digits

-- the entries i to n
abbrev pub entries_in : List ℕ → ℕ → ℕ → List Entry
entries_in flat i n = map entry_of (noted_from flat i (n - i))

-- How many bytes entry i takes by itself.
pub record Sized (flat : List ℕ) (i r : ℕ) : Type 0 where
  pub is : r ≡ size_of (entry_of (noted_at flat i)).content
  pub small : r ≤ 4294967295

-- Whether entry i is an item whose picture has an S.
pub record Signed (flat : List ℕ) (i : ℕ) (r : Bool) : Type 0 where
  pub is : r ≡ is_signed (entry_of (noted_at flat i)).content

-- The size of a group of this level by the entries i to n, and whether one of them is signed.
pub record Summed (flat : List ℕ) (i n l r : ℕ) (signed : Bool) : Type 0 where
  pub is : r ≡ below l (entries_in flat i n)
  pub small : r ≤ 4294967295 * n
  pub signs : signed ≡ signed_below l (entries_in flat i n)

-- the row of entry i of n at an offset
abbrev pub row_in : List ℕ → ℕ → ℕ → ℕ → Row
row_in flat i n o = row_of o (entry_of (noted_at flat i)).level (entry_of (noted_at flat i)).content (entries_in flat (suc i) n)

-- a row's numbers, in the order of document 01, and request f)'s fifth
abbrev pub numbers_of : Row → List ℕ
numbers_of r = r.kind ∷ r.offset ∷ r.size ∷ r.scale ∷ r.digits ∷ []

unfoldable pub row_numbers : List Row → List ℕ
row_numbers [] = []
row_numbers (r ∷ rs) = numbers_of r ++ row_numbers rs

abbrev pub over_place : Option ℕ → maybe.Option ℕ
over_place (Some p) = some p
over_place None = none

-- the place of the first entry over a limit, with n rows before these
unfoldable pub first_over : ℕ → List Entry → List Row → maybe.Option ℕ
first_over n [] rs = none
first_over n (e ∷ es) [] = none
first_over n (e ∷ es) (r ∷ rs) = cond (over n r) (some e.place) (first_over (suc n) es rs)

-- the rows before the first one over a limit, with n rows before these
unfoldable pub rows_within : ℕ → List Row → List Row
rows_within n [] = []
rows_within n (r ∷ rs) = cond (over n r) [] (r ∷ rows_within (suc n) rs)

-- the rows that are written of n entries
abbrev pub written_rows : List ℕ → ℕ → List Row
written_rows flat n = rows_within 0 (layout 0 (entries_in flat 0 n))

-- The place of the first entry over a limit; the rows before it, and the rest of the buffer as it was.
pub record LaidOut (flat : List ℕ) (n : ℕ) (r : Option ℕ) (before after : List ℕ) : Type 0 where
  pub limit : first_over 0 (entries_in flat 0 n) (layout 0 (entries_in flat 0 n)) ≡ over_place r
  pub written : after ≡ row_numbers (written_rows flat n) ++ drop (length (written_rows flat n) * row_width) before
  pub few : r ≡ None → n ≤ 64
