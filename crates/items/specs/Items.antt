-- Document 02, requests j), k), m): elementary items, their parts of a record, and a record with those parts replaced.
use Rattle.std.specs.Prelude.{Bool, true, false, cond, not, ◌&&◌, ◌||◌, List, [], ◌∷◌, ◌++◌, ℕ, zero, suc, ◌+◌, length, take, drop, eqb, leb}
use Rattle.content.specs.declared.Row.{Row}
use Rattle.tables.specs.Rows.{row_at, row_count, is_group, part}

-- "elementary item": every row but a group's
abbrev pub is_elementary : Row → Bool
is_elementary r = not (is_group r)

abbrev pub elementary_at : List ℕ → ℕ → Bool
elementary_at items v = is_elementary (row_at items v)

-- the bytes of row v in a record
abbrev pub part_at : List ℕ → ℕ → List ℕ → List ℕ
part_at items v content = part (row_at items v) content

-- two strings of bytes are the same
unfoldable pub same : List ℕ → List ℕ → Bool
same [] [] = true
same [] (y ∷ ys) = false
same (x ∷ xs) [] = false
same (x ∷ xs) (y ∷ ys) = eqb x y && same xs ys

-- a record with the part of a row replaced
abbrev pub replaced : Row → List ℕ → List ℕ → List ℕ
replaced r bytes content = take r.offset content ++ bytes ++ drop (r.offset + r.size) content

-- a record with the part of each elementary row among the first n replaced by that row's new bytes, row after row
unfoldable pub rewritten : List ℕ → (ℕ → List ℕ) → List ℕ → ℕ → List ℕ
rewritten items new content zero = content
rewritten items new content (suc v) =
    cond (elementary_at items v) (replaced (row_at items v) (new v) (rewritten items new content v)) (rewritten items new content v)

-- what the first n rows list, one after the other: "in row order"
unfoldable pub listed : (ℕ → List ℕ) → ℕ → List ℕ
listed entry zero = []
listed entry (suc v) = listed entry v ++ entry v

-- each of the first n rows passes a test
unfoldable pub each_below : (ℕ → Bool) → ℕ → Bool
each_below test zero = true
each_below test (suc v) = each_below test v && test v

-- two rows share no byte
abbrev pub apart : Row → Row → Bool
apart r s = leb (r.offset + r.size) s.offset || leb (s.offset + s.size) r.offset

-- row v is a group's, or shares no byte with an elementary row before it
abbrev pub clear_of : List ℕ → ℕ → ℕ → Bool
clear_of items v u = is_group (row_at items u) || apart (row_at items u) (row_at items v)

abbrev pub clear_at : List ℕ → ℕ → Bool
clear_at items v = is_group (row_at items v) || each_below (clear_of items v) v
