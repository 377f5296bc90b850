-- Examples, by computing.
use Prim.Native.Nat.{ℕ}
use mathlib.Core.Path.{◌≡◌, refl}
use mathlib.Core.List.{List, [], ◌∷◌}
use Rattle.content.specs.Content.{all}
use Rattle.content.specs.WrongByte.{first_from, valid_content}
use Rattle.tables.specs.declared.Refusal.TheVariants.{ItemTable, ItemRow, Overlap, Record, Room}
use Rattle.tables.specs.Refusals.{first_failing, first_of}
use Rattle.items.specs.Items.{rewritten, each_below}
use Rattle.items.specs.Lines.{overlap_check}
use Rattle.mending.specs.Mend.{filled, leading, attempt, mended_item, changes_from, changes, mend_line, mending}
use Rattle.std.specs.Prelude.{Err, Ok}

-- one item mended, or not: inner spaces, another byte before the digits, packed and nonnumeric items are not
abbrev Mends : ℕ → ℕ → List ℕ → List ℕ → Type 0
Mends kind digits bytes result = mended_item kind digits bytes ≡ result

items-mended :
    Mends 3 3 (0x20 ∷ 0x20 ∷ 0x35 ∷ []) (0x30 ∷ 0x30 ∷ 0x35 ∷ [])
    × Mends 4 3 (0x20 ∷ 0x20 ∷ 0x45 ∷ []) (0x30 ∷ 0x30 ∷ 0x45 ∷ [])
    × Mends 5 2 (0x20 ∷ 0x20 ∷ 0x35 ∷ []) (0x2b ∷ 0x30 ∷ 0x35 ∷ [])
    × Mends 5 2 (0x2d ∷ 0x20 ∷ 0x35 ∷ []) (0x2d ∷ 0x30 ∷ 0x35 ∷ [])
    × Mends 6 2 (0x20 ∷ 0x35 ∷ 0x20 ∷ []) (0x30 ∷ 0x35 ∷ 0x2b ∷ [])
    × Mends 3 2 (0x35 ∷ 0x20 ∷ []) (0x35 ∷ 0x20 ∷ [])
    × Mends 3 3 (0x20 ∷ 0x35 ∷ 0x20 ∷ []) (0x20 ∷ 0x35 ∷ 0x20 ∷ [])
    × Mends 3 2 (0x20 ∷ 0x41 ∷ []) (0x20 ∷ 0x41 ∷ [])
    × Mends 3 2 (0x20 ∷ 0x2b ∷ []) (0x20 ∷ 0x2b ∷ [])
    × Mends 2 0 (0x20 ∷ 0x35 ∷ []) (0x20 ∷ 0x35 ∷ [])
    × Mends 9 3 (0x20 ∷ 0x23 ∷ []) (0x20 ∷ 0x23 ∷ [])
unfolding mended_item attempt leading filled all valid_content first_from
items-mended = (refl, refl, refl, refl, refl, refl, refl, refl, refl, refl, refl)

-- a blank meter is never 0: in every kind, a blank sign too
blank-meters :
    Mends 3 2 (0x20 ∷ 0x20 ∷ []) (0x20 ∷ 0x20 ∷ [])
    × Mends 4 1 (0x20 ∷ []) (0x20 ∷ [])
    × Mends 5 1 (0x20 ∷ 0x20 ∷ []) (0x20 ∷ 0x20 ∷ [])
    × Mends 5 1 (0x2b ∷ 0x20 ∷ []) (0x2b ∷ 0x20 ∷ [])
    × Mends 6 1 (0x20 ∷ 0x20 ∷ []) (0x20 ∷ 0x20 ∷ [])
unfolding mended_item attempt leading filled all valid_content first_from
blank-meters = (refl, refl, refl, refl, refl)

-- rows that lie in the record in another order than in the table: the list goes by offset
two : List ℕ
two = 3 ∷ 3 ∷ 2 ∷ 0 ∷ 2 ∷ 5 ∷ 0 ∷ 3 ∷ 0 ∷ 2 ∷ []

blanks : List ℕ
blanks = 0x20 ∷ 0x20 ∷ 0x37 ∷ 0x20 ∷ 0x39 ∷ 0x20 ∷ []

listed : changes two blanks ≡ 0 ∷ 0x20 ∷ 0x2b ∷ 1 ∷ 0x20 ∷ 0x30 ∷ 3 ∷ 0x20 ∷ 0x30 ∷ []
unfolding two blanks changes_from rewritten mended_item attempt leading filled all valid_content first_from
listed = refl

-- 19: items overlap; a group over its members, kind 7 too, does not count, nor do rows that touch
overlaps :
    (overlap_check (0 ∷ 0 ∷ 4 ∷ 0 ∷ 0 ∷ 2 ∷ 0 ∷ 2 ∷ 0 ∷ 0 ∷ 2 ∷ 2 ∷ 2 ∷ 0 ∷ 0 ∷ []) ≡ Ok tt)
    × (overlap_check (2 ∷ 0 ∷ 2 ∷ 0 ∷ 0 ∷ 7 ∷ 0 ∷ 4 ∷ 0 ∷ 0 ∷ 2 ∷ 1 ∷ 2 ∷ 0 ∷ 0 ∷ []) ≡ Err (Overlap 2))
unfolding first_failing each_below
overlaps = (refl, refl)

-- the order of the refusals
short : List ℕ
short = 0x20 ∷ 0x20 ∷ 0x37 ∷ 0x20 ∷ []

refused :
    (mend_line (3 ∷ []) short 0 ≡ Err ItemTable)
    × (mend_line (3 ∷ 3 ∷ 2 ∷ 0 ∷ 1 ∷ []) short 0 ≡ Err (ItemRow 0))
    × (mend_line two short 0 ≡ Err (Record 0))
    × (mend_line two blanks 8 ≡ Err (Room 9))
    × (mend_line two blanks 9 ≡ Ok tt)
unfolding two blanks short first_of first_failing each_below changes_from rewritten mended_item attempt leading filled all valid_content first_from
refused = (refl, refl, refl, refl, refl)
