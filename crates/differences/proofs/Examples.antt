-- Examples, by computing.
use Prim.Native.Nat.{ℕ}
use mathlib.Core.Path.{◌≡◌, refl}
use mathlib.Core.List.{List, [], ◌∷◌}
use Rattle.content.specs.Content.{number_from, all}
use Rattle.content.specs.Packed.{packed_from}
use Rattle.content.specs.WrongByte.{first_from, valid_content}
use Rattle.tables.specs.declared.Refusal.TheVariants.{Record}
use Rattle.tables.specs.Refusals.{first_failing}
use Rattle.items.specs.Items.{same, listed}
use Rattle.differences.specs.Differ.{differences, end_check}
use Rattle.std.specs.Prelude.{Err, Ok}

-- a group of three members: two digits, a text, a signed number; a packed amount behind them
rows : List ℕ
rows = 0 ∷ 0 ∷ 6 ∷ 0 ∷ 0 ∷ 3 ∷ 0 ∷ 2 ∷ 0 ∷ 2 ∷ 2 ∷ 2 ∷ 2 ∷ 0 ∷ 0 ∷ 4 ∷ 4 ∷ 2 ∷ 0 ∷ 2 ∷ 8 ∷ 6 ∷ 1 ∷ 0 ∷ 1 ∷ []

first : List ℕ
first = 0x30 ∷ 0x31 ∷ 0x41 ∷ 0x42 ∷ 0x30 ∷ 0x30 ∷ 0x03 ∷ []

-- V in value, B in the sign of zero (row 3 and the packed row 4), the group not listed
values_and_signs : differences rows first (0x30 ∷ 0x32 ∷ 0x41 ∷ 0x42 ∷ 0x30 ∷ 0x40 ∷ 0x04 ∷ []) ≡ 1 ∷ 0x56 ∷ 3 ∷ 0x42 ∷ 4 ∷ 0x42 ∷ []
unfolding rows first listed same valid_content first_from number_from packed_from
values_and_signs = refl

-- I where one content is invalid, V for a text, V for a packed value
invalid : differences rows first (0x20 ∷ 0x31 ∷ 0x41 ∷ 0x20 ∷ 0x30 ∷ 0x30 ∷ 0x13 ∷ []) ≡ 1 ∷ 0x49 ∷ 2 ∷ 0x56 ∷ 4 ∷ 0x56 ∷ []
unfolding rows first listed same valid_content first_from number_from packed_from
invalid = refl

-- nothing differs; 12 by the second record
alike : differences rows first first ≡ []
unfolding rows first listed same
alike = refl

ends :
    (end_check rows first first ≡ Ok tt)
    × (end_check rows first (0x30 ∷ 0x31 ∷ []) ≡ Err (Record 0))
    × (end_check rows first (0x30 ∷ 0x31 ∷ 0x41 ∷ 0x42 ∷ 0x30 ∷ 0x30 ∷ []) ≡ Err (Record 4))
unfolding rows first first_failing
ends = (refl, refl, refl)
