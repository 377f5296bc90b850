-- Document 02, e): literals as they are written, and as rows and bytes of document 01.
use Rattle.std.specs.Prelude.{Bool, true, false, cond, not, ◌&&◌, List, [], ◌∷◌, ◌++◌, ℕ, suc, ◌-◌, length, take, drop, eqb}
use Rattle.content.specs.Content.{is_sign, first_byte, last_byte, but_first, but_last}
use Rattle.content.specs.WrongByte.{valid_content}
use Rattle.description.specs.Grammar.{same}
use Rattle.content.specs.declared.Row.{Row}
use Rattle.tables.specs.Rows.{row_sound}
use Rattle.spelling.specs.Words.{is_quote}
use Rattle.content.specs.Kinds.{kind_alphanumeric, kind_unsigned, kind_sign_leading}

-- a literal without its place among the literal bytes
pub record Literal : Type 0 where
  pub kind : ℕ
  pub scale : ℕ
  pub bytes : List ℕ

-- Document 02, f): the digit count, "agreeing with the size, 0 for others"; a sign is one byte more
abbrev pub literal_digits : ℕ → ℕ → ℕ
literal_digits kind size = cond (eqb kind kind_unsigned) size (cond (eqb kind kind_sign_leading) (size - 1) 0)

-- its row, where its bytes are laid at an offset
abbrev pub row_of_literal : ℕ → Literal → Row
row_of_literal offset l =
    record { kind = l.kind; offset = offset; size = length l.bytes; scale = l.scale; digits = literal_digits l.kind (length l.bytes) }

-- "A row is four numbers: kind, offset, size in bytes, scale"; f): "Rows grow to five numbers, the fifth being the digit count"
abbrev pub laid : Row → List ℕ
laid r = r.kind ∷ r.offset ∷ r.size ∷ r.scale ∷ r.digits ∷ []

-- within "01's limits", its content valid
abbrev pub fits : Literal → Bool
fits l = row_sound (row_of_literal 0 l) && valid_content l.kind (row_of_literal 0 l).digits l.bytes

-- "nonnumeric ones stand in ", any bytes, a " inside doubled"
unfoldable pub doubled : List ℕ → List ℕ
doubled [] = []
doubled (b ∷ bytes) = cond (is_quote b) (b ∷ b ∷ doubled bytes) (b ∷ doubled bytes)

abbrev pub quoted : List ℕ → List ℕ
quoted bytes = 0x22 ∷ (doubled bytes ++ 0x22 ∷ [])

-- the bytes with the byte after each quote left out, and the first one too where `skip`
unfoldable pub undoubled : Bool → List ℕ → List ℕ
undoubled skip [] = []
undoubled true (b ∷ bytes) = undoubled false bytes
undoubled false (b ∷ bytes) = b ∷ undoubled (is_quote b) bytes

-- the nonnumeric literal that a word writes: what stands between its first and its last byte
abbrev pub text_of : List ℕ → Literal
text_of word = record { kind = kind_alphanumeric; scale = 0; bytes = undoubled false (but_last (but_first word)) }

unfoldable pub is_text : List ℕ → Bool
is_text word = same word (quoted (text_of word).bytes) && fits (text_of word)

abbrev pub is_point : ℕ → Bool
is_point b = eqb b 0x2e

-- the bytes without their first point, and those after it
unfoldable pub without_point : List ℕ → List ℕ
without_point [] = []
without_point (b ∷ bytes) = cond (is_point b) bytes (b ∷ without_point bytes)

unfoldable pub after_point : List ℕ → List ℕ
after_point [] = []
after_point (b ∷ bytes) = cond (is_point b) bytes (after_point bytes)

-- the place of the first point, or the length
unfoldable pub point_place : List ℕ → ℕ
point_place [] = 0
point_place (b ∷ bytes) = cond (is_point b) 0 (suc (point_place bytes))

-- The numeric literal that a word writes: kind 5 with a sign, kind 3 without; its bytes hold no point, its scale is the number of
-- digits after the point.
abbrev pub number_of : List ℕ → Literal
number_of word =
    record { kind = cond (is_sign (first_byte word)) kind_sign_leading kind_unsigned; scale = length (after_point word); bytes = without_point word }

-- "numeric literals may be signed and hold one point, not last"
unfoldable pub is_number : List ℕ → Bool
is_number word = fits (number_of word) && not (is_point (last_byte word))

-- the digits with the point before the last `scale` of them
abbrev pub pointed : ℕ → List ℕ → List ℕ
pointed scale bytes = cond (eqb scale 0) bytes (take (length bytes - scale) bytes ++ 0x2e ∷ drop (length bytes - scale) bytes)

-- a literal as it is printed
abbrev pub written : Literal → List ℕ
written l = cond (eqb l.kind kind_alphanumeric) (quoted l.bytes) (pointed l.scale l.bytes)
