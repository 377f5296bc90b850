-- Items by their names, and conditions by their words.
use Rattle.std.specs.Prelude.{◌≡◌, Result, Ok, Err, ℕ, zero, suc, ◌+◌, ◌-◌, ◌%◌, Bool, cond, ◌&&◌, ◌||◌, List, [], ◌∷◌, length, take, drop, ◌==◌, nat_le, nat_lt, slice_index}
use Rattle.content.specs.declared.Row.{Row}
use Rattle.tables.specs.Rows.{row_at, row_count}
use Rattle.items.specs.Items.{elementary_at}
use Rattle.tables.specs.Words.{NOT}
use Rattle.grammar.specs.declared.PlanRow.{PlanRow}
use Rattle.books.specs.declared.PrintRefusal.{PrintRefusal}
use Rattle.books.specs.Calls.{PrintedAs}
use Rattle.spelling.specs.Printing.{print_condition}

-- a name ends before a space, a line feed or a period
abbrev pub ends_name : ℕ → Bool
ends_name b = (b == 0x20 || b == 0x0A) || b == 0x2E

unfoldable pub name_in : List ℕ → List ℕ
name_in [] = []
name_in (b ∷ rest) = cond (ends_name b) [] (b ∷ name_in rest)

-- the place of row v, or the end of the description
abbrev pub place_of_row : List ℕ → List ℕ → ℕ → ℕ
place_of_row description places v = cond (nat_lt v (length places)) (slice_index places v) (length description)

abbrev pub name_of_row : List ℕ → List ℕ → ℕ → List ℕ
name_of_row description places v = name_in (drop (place_of_row description places v) description)

-- a row's bytes have this one
abbrev pub has_byte : Row → ℕ → Bool
has_byte r byte = nat_le r.offset byte && nat_lt (byte - r.offset) r.size

-- the first elementary item of these that has a byte of the record; 64 where none has it
unfoldable pub first_with : List ℕ → ℕ → ℕ → ℕ → ℕ
first_with items byte v zero = 64
first_with items byte v (suc left) = cond (elementary_at items v && has_byte (row_at items v) byte) v (first_with items byte (v + 1) left)

abbrev pub item_with : List ℕ → ℕ → ℕ
item_with items byte = cond (nat_lt 64 (row_count items)) 64 (first_with items byte 0 (row_count items))

-- tokens as words: how many bytes they have, none where they can't be printed
abbrev pub count_in : Result ℕ PrintRefusal → ℕ
count_in (Ok n) = n
count_in (Err r) = 0

pub record Words (description literals bytes tokens out : List ℕ) (r : ℕ) (after : List ℕ) : Type 0 where
  pub printed : Result ℕ PrintRefusal
  pub printed_as : PrintedAs (print_condition description literals bytes tokens) out printed after
  pub counts : r ≡ count_in printed

-- the tokens of a plan row's condition: a switch or a condition-name stands alone, class and sign words have no object
abbrev pub token_count : ℕ → ℕ
token_count relation =
    cond (relation == 0) 1 (cond (nat_lt relation 10) 3 (cond (nat_lt relation 32) 2 (cond (nat_lt (relation % 32) 10) 4 3)))

abbrev pub row_tokens : PlanRow → List ℕ
row_tokens r =
    cond (nat_lt r.relation 32) (r.subject ∷ (262144 + r.relation % 32) ∷ r.object ∷ 0 ∷ []) (r.subject ∷ NOT ∷ (262144 + r.relation % 32) ∷ r.object ∷ [])

abbrev pub condition_tokens : PlanRow → List ℕ
condition_tokens r = take (token_count r.relation) (row_tokens r)
