-- Document 01, "Truth on a record": how the two sides of a relation compare.
use Rattle.std.specs.Prelude.{Bool, not, cond, ◌&&◌, List, ℕ, ◌+◌, ℤ}
use Rattle.content.specs.Content.{digit_characters, value}
use Rattle.content.specs.WrongByte.{Wrong, Nowhere, At, first_wrong}
use Rattle.content.specs.declared.Row.{Row}
use Rattle.tables.specs.Tokens.{is_item}
use Rattle.tables.specs.Rows.{is_group, is_numeric}
use Rattle.tables.specs.Operands.{Lent, row_of, operand_bytes}
use Rattle.std.specs.declared.cmp.Ordering.{Ordering}
use Rattle.compare.specs.Compared.{scaled_order, character_order}

-- One side of a relation: an item or a literal, with its row and its bytes.
pub record Side : Type 0 where
  pub item : Bool
  pub row : Row
  pub bytes : List ℕ

abbrev pub side : Bool → Row → List ℕ → Side
side item row bytes = record { item = item; row = row; bytes = bytes }

abbrev pub side_of : Lent → List ℕ → ℕ → Side
side_of lent content token = side (is_item token) (row_of lent token) (operand_bytes lent content token)

abbrev pub numeric : Side → Bool
numeric s = is_numeric s.row

abbrev pub group : Side → Bool
group s = is_group s.row

abbrev pub value_of : Side → ℤ
value_of s = value s.row.kind s.bytes

-- "A numeric side beside a kind 1 or 2 operand gives its digits as characters, without sign. A numeric item beside a group gives
-- its bytes as they lie, unchecked. A numeric literal gives its digits in both cases." Document 02, b): kind 7 is "compared .. as a group".
abbrev pub gives_digits : Side → Side → Bool
gives_digits s other = numeric s && not (s.item && group other)

abbrev pub characters : Side → Side → List ℕ
characters s other = cond (gives_digits s other) (digit_characters s.row.kind s.bytes) s.bytes

-- "Two numeric sides: .." by value, "Other pairs: .." by characters
unfoldable pub comparison : Side → Side → Ordering
comparison s o =
    cond (numeric s && numeric o)
    (scaled_order (value_of s) s.row.scale (value_of o) o.row.scale)
    (character_order (characters s o) (characters o s))

-- a place in a field, as an offset in the record
abbrev pub moved : ℕ → Wrong → Wrong
moved offset Nowhere = Nowhere
moved offset (At i) = At (offset + i)

-- "the item's first wrong byte as an offset in the record": a literal has none, since 4 has looked at it
abbrev pub wrong_byte : Side → Wrong
wrong_byte s = cond s.item (moved s.row.offset (first_wrong s.row.kind s.row.digits s.bytes)) Nowhere

-- The fault of a side of a relation, beside a row: "a numeric item's value or digits with invalid content", "a kind 1 item against
-- anything but a group". Beside a group, of kind 0 or 7, nothing is looked at; groups and kind 2 have no wrong
-- byte.
abbrev pub fault : Side → Row → Wrong
fault s other = cond (is_group other) Nowhere (wrong_byte s)
