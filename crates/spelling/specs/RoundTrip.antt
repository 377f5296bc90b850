-- Document 02, e) and h): what holds of every reading.
use Rattle.std.specs.Prelude.{◌≡◌, List, ℕ, ◌≤◌, length, Ok}
use Rattle.tables.specs.Rows.{row_count, name_count}
use Rattle.tables.specs.Operands.{lend_names}
use Rattle.tables.specs.Tables.{literal_table_check, literal_row_check, token_count_check, token_check}
use Rattle.description.specs.Grammar.{Table}
use Rattle.description.specs.Limits.{table, describe}
use Rattle.spelling.specs.Reading.{Reading, read, read_condition}
use Rattle.spelling.specs.Printing.{Print, print_condition, text as printed_text}

pub record PrintedAgain (description tokens rows bytes : List ℕ) : Type 0 where
  -- the printer refuses nothing that was read
  pub printed : List ℕ
  pub prints : print_condition description rows bytes tokens ≡ printed_text printed
  -- and what it writes is read as before
  pub reads : length printed ≤ 2048 → read_condition description printed ≡ read tokens rows bytes

-- "What was read, printed in 2,048 bytes or fewer and read again, gives the same tokens and literals."
abbrev pub RoundTrip : Type 0
RoundTrip =
    (description text tokens rows bytes : List ℕ) → read_condition description text ≡ read tokens rows bytes
    → PrintedAgain description tokens rows bytes

-- "Only words are judged here; their order stays with 7": with an item table and a name table of the description's rows, refusals 3 to 6
-- are ruled out.
pub record TakenOn (items tokens rows bytes names : List ℕ) : Type 0 where
  pub table_sound : literal_table_check (lend_names items rows bytes names) ≡ Ok tt
  pub rows_sound : literal_row_check (lend_names items rows bytes names) ≡ Ok tt
  pub count_sound : token_count_check tokens ≡ Ok tt
  pub tokens_sound : token_check (lend_names items rows bytes names) tokens ≡ Ok tt

abbrev pub TakenBy : Type 0
TakenBy =
    (description text tokens rows bytes items names : List ℕ) (t : Table) → read_condition description text ≡ read tokens rows bytes
    → describe description ≡ table t → row_count items ≡ length t.entries → name_count names ≡ length t.names
    → TakenOn items tokens rows bytes names
