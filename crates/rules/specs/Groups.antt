-- Document 02, b): row kind 7 "is sized, compared and tested for letters as a group, and NUMERIC on it means all digits."
use Rattle.std.specs.Prelude.{◌≡◌, Bool, true, false, ℕ, eqb}
use Rattle.content.specs.Content.{all, is_digit}
use Rattle.content.specs.WrongByte.{Nowhere}
use Rattle.content.specs.declared.Row.{Row}
use Rattle.tables.specs.Rows.{row_sound}
use Rattle.typing.specs.Typing.{side_fits, may_be_numeric, may_be_alphabetic}
use Rattle.values.specs.Comparison.{Side, side, fault}
use Rattle.values.specs.Truth.{truth, turned, relation_outcome, class_outcome}

-- a row and a side of another kind, the same for the rest
abbrev pub row_as : ℕ → Row → Row
row_as kind r = record { kind = kind; offset = r.offset; size = r.size; scale = r.scale; digits = r.digits }

abbrev pub side_as : ℕ → Side → Side
side_as kind s = side s.item (row_as kind s.row) s.bytes

pub record LikeAGroup : Type 0 where
  -- "sized"
  pub sized : (r : Row) → row_sound (row_as 7 r) ≡ row_sound (row_as 0 r)
  -- "compared": typed beside any row, and come to the same truth or the same stop beside any side
  pub beside_typed : (r other : Row) → side_fits (row_as 7 r) other ≡ side_fits (row_as 0 r) other
  pub other_typed : (r other : Row) → side_fits other (row_as 7 r) ≡ side_fits other (row_as 0 r)
  pub subject : (word : ℕ) (negated : Bool) (s o : Side)
      → relation_outcome word negated (side_as 7 s) o ≡ relation_outcome word negated (side_as 0 s) o
  pub object : (word : ℕ) (negated : Bool) (s o : Side)
      → relation_outcome word negated s (side_as 7 o) ≡ relation_outcome word negated s (side_as 0 o)
  -- beside it nothing is looked at, numeric or alphabetic, and it has no wrong byte itself
  pub unchecked : (s : Side) (r : Row) → fault s (row_as 7 r) ≡ Nowhere
  pub faultless : (s : Side) (other : Row) → fault (side_as 7 s) other ≡ Nowhere
  -- "tested for letters": words 11 to 13
  pub letters_typed : (r : Row) → may_be_alphabetic (row_as 7 r) ≡ may_be_alphabetic (row_as 0 r)
  pub letters : (word : ℕ) (negated : Bool) (s : Side) → eqb word 10 ≡ false
      → class_outcome word negated (side_as 7 s) ≡ class_outcome word negated (side_as 0 s)
  -- "NUMERIC on it means all digits", where kind 0 is barred from it
  pub numeric_typed : (r : Row) → may_be_numeric (row_as 7 r) ≡ true
  pub numeric_barred : (r : Row) → may_be_numeric (row_as 0 r) ≡ false
  pub numeric : (negated : Bool) (s : Side) → class_outcome 10 negated (side_as 7 s) ≡ truth (turned negated (all is_digit s.bytes))
