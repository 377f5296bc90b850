-- Document 01, "Tokens and rows": the kinds of a row. `Row` has the same in the code.
use Rattle.std.specs.Prelude.{Bool, ◌&&◌, ℕ, leb}

-- "Kinds: 0 group, 1 alphabetic, 2 alphanumeric, 3 unsigned numeric, 4 signed with the sign in the last byte, 5 sign leading separate, 6 sign
-- trailing separate."
abbrev pub kind_group : ℕ
kind_group = 0

abbrev pub kind_alphabetic : ℕ
kind_alphabetic = 1

abbrev pub kind_alphanumeric : ℕ
kind_alphanumeric = 2

abbrev pub kind_unsigned : ℕ
kind_unsigned = 3

abbrev pub kind_signed : ℕ
kind_signed = 4

abbrev pub kind_sign_leading : ℕ
kind_sign_leading = 5

abbrev pub kind_sign_trailing : ℕ
kind_sign_trailing = 6

-- Document 02, b): "row kind 7, a group with no signed item at any depth"
abbrev pub kind_unsigned_group : ℕ
kind_unsigned_group = 7

-- f): "Kind 8 is signed packed, kind 9 unsigned"
abbrev pub kind_packed : ℕ
kind_packed = 8

abbrev pub kind_packed_unsigned : ℕ
kind_packed_unsigned = 9

-- "numeric (3 to 6)": a digit to a byte
abbrev pub is_zoned : ℕ → Bool
is_zoned kind = leb kind_unsigned kind && leb kind kind_sign_trailing

-- "Rows grow to five numbers" (02, f)
abbrev pub row_width : ℕ
row_width = 5
