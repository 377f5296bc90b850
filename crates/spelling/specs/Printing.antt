-- Document 02, e): tokens written back, "one space between words, relations as symbols".
use Rattle.std.specs.Prelude.{Bool, true, false, cond, not, ◌&&◌, List, [], ◌∷◌, ◌++◌, map, ℕ, suc, length, get_or, eqb, Err, Ok}
use Rattle.tables.specs.Tokens.{index_of, is_item, is_literal, is_on, is_name, token_there}
use Rattle.tables.specs.Rows.{row_count, row_at, part}
use Rattle.tables.specs.Operands.{lend}
use Rattle.tables.specs.Refusals.{number, place, Check}
use Rattle.tables.specs.Tables.{literal_table_check, literal_row_check, token_count_check}
use Rattle.description.specs.Grammar.{bytes, same}
use Rattle.description.specs.Limits.{Outcome, table, refusal as faulty, describe}
use Rattle.spelling.specs.Literals.{Literal, written}
use Rattle.spelling.specs.Keywords.{spellings, UPSI}
use Rattle.spelling.specs.Names.{Known, every_name, known_of}
use Rattle.spelling.specs.Meanings.{count}
use Rattle.spelling.specs.Reading.{Found, none, refusal, before}

-- the literal of a row
abbrev pub literal_at : List ℕ → List ℕ → ℕ → Literal
literal_at rows content v = record { kind = (row_at rows v).kind; scale = (row_at rows v).scale; bytes = part (row_at rows v) content }

-- the word that a token is printed as
abbrev pub word_of : Known → List ℕ → List ℕ → ℕ → List ℕ
word_of known rows content t =
    cond (is_item t) (get_or known.items (index_of t) [])
    (cond (is_literal t) (written (literal_at rows content (index_of t)))
    (cond (is_on t) (UPSI (index_of t))
    (cond (is_name t) (get_or known.conditions (index_of t) []) (get_or spellings (index_of t) []))))

-- words with a space before each, and with one space between words
unfoldable pub spaced : List (List ℕ) → List ℕ
spaced [] = []
spaced (w ∷ ws) = 0x20 ∷ (w ++ spaced ws)

unfoldable pub line : List (List ℕ) → List ℕ
line [] = []
line (w ∷ ws) = w ++ spaced ws

abbrev pub printed : Known → List ℕ → List ℕ → List ℕ → List ℕ
printed known rows content tokens = line (map (word_of known rows content) tokens)

-- what a line of document 01's table comes to
abbrev pub found : Check → Found
found (Ok _) = none
found (Err r) = refusal (number r) (place r)

-- the first token that fails a test
unfoldable pub first_token : (ℕ → Bool) → ℕ → ℕ → List ℕ → Found
first_token sound number at [] = none
first_token sound number at (t ∷ ts) = cond (sound t) (first_token sound number (suc at) ts) (refusal number at)

-- "6 for an off switch" too, which is no token since l); h): a condition-name beyond the name rows
abbrev pub printable : Known → List ℕ → ℕ → Bool
printable known rows t = token_there false (length known.items) (row_count rows) (length known.conditions) t

-- a name that is no FILLER, and no other's
abbrev pub uniquely : Known → List ℕ → Bool
uniquely known name = not (same name (bytes "FILLER")) && eqb (count name (every_name known)) 1

-- "16 for FILLER or a doubled name at its token"; h): names of items and of conditions are one set
abbrev pub has_name : Known → ℕ → Bool
has_name known t =
    cond (is_item t) (uniquely known (get_or known.items (index_of t) []))
    (cond (is_name t) (uniquely known (get_or known.conditions (index_of t) [])) true)

-- "it refuses with .. 3 to 6 (6 for an off switch), 16"
abbrev pub print_fault : Known → List ℕ → List ℕ → List ℕ → Found
print_fault known rows content tokens =
    before (found (literal_table_check (lend [] rows content)))
    (before (found (literal_row_check (lend [] rows content)))
    (before (found (token_count_check tokens))
    (before (first_token (printable known rows) 6 0 tokens) (first_token (has_name known) 16 0 tokens))))

-- what printing gives: a text, or a refusal
pub data Print : Type 0 where
  text : List ℕ → Print
  refused : ℕ → ℕ → Print

abbrev pub print_result : Found → List ℕ → Print
print_result none t = text t
print_result (refusal number place) t = refused number place

unfoldable pub printing : Known → List ℕ → List ℕ → List ℕ → Print
printing known rows content tokens = print_result (print_fault known rows content tokens) (printed known rows content tokens)

-- "it refuses with 14" first
abbrev pub print_after : List ℕ → Outcome → List ℕ → List ℕ → List ℕ → Print
print_after description (table t) rows content tokens = printing (known_of description t) rows content tokens
print_after description (faulty place) rows content tokens = refused 14 place

abbrev pub print_condition : List ℕ → List ℕ → List ℕ → List ℕ → Print
print_condition description rows content tokens = print_after description (describe description) rows content tokens
