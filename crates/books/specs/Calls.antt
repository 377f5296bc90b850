-- Document 02, e): the calls' whole answers and their outputs.
use Rattle.std.specs.Prelude.{◌≡◌, cond, ◌&&◌, Result, Ok, Err, List, [], ◌++◌, map, ℕ, ◌+◌, ◌≤◌, eqb, leb, length, drop}
use Rattle.tables.specs.declared.Refusal.TheVariants.{LiteralTable, LiteralRow, TokenCount as WrongCount, Token, Room as Short}
use Rattle.tables.specs.Operands.{lend}
use Rattle.tables.specs.Refusals as Refusals
use Rattle.tables.specs.Tables.{literal_table_check, literal_row_check, token_count_check}
use Rattle.description.specs.Grammar.{Entry, Condition}
use Rattle.description.specs.Limits.{Outcome, table, refusal, describe}
use Rattle.spelling.specs.Names.{numbers}
use Rattle.naming.specs.Named.{Listed, known_at}
use Rattle.spelling.specs.Reading.{Reading, read, refused}
use Rattle.spelling.specs.Printing.{Print, text, refused as unprinted, printable, has_name}
use Rattle.printable.specs.Passing.{passing}
use Rattle.literal_bytes.specs.Written.{written_over}
use Rattle.books.specs.declared.Counts.{Counts}
use Rattle.books.specs.declared.ReadRefusal.{ReadRefusal}
use Rattle.books.specs.declared.ReadRefusal.TheVariants.{Description, Word, Name, TokenCount, Room}
use Rattle.books.specs.declared.PrintRefusal.{PrintRefusal}
use Rattle.books.specs.declared.PrintRefusal.TheVariants.{Description as Undescribed, Refused, Name as Unnamed}
use Rattle.books.specs.declared.Book.{Book}

-- "Numbers from 14 join 01's table": the number and the place of a refusal of `read`
abbrev pub read_number : Result Counts ReadRefusal → ℕ
read_number (Ok c) = 0
read_number (Err (Description p)) = 14
read_number (Err (Word p)) = 15
read_number (Err (Name p)) = 16
read_number (Err TokenCount) = 5
read_number (Err (Room n)) = 10

abbrev pub read_place : Result Counts ReadRefusal → ℕ
read_place (Ok c) = 0
read_place (Err (Description p)) = p
read_place (Err (Word p)) = p
read_place (Err (Name p)) = p
read_place (Err TokenCount) = 0
read_place (Err (Room n)) = n

-- and of `print`
abbrev pub print_number : Result ℕ PrintRefusal → ℕ
print_number (Ok n) = 0
print_number (Err (Undescribed p)) = 14
print_number (Err (Refused r)) = Refusals.number r
print_number (Err (Unnamed i)) = 16

abbrev pub print_place : Result ℕ PrintRefusal → ℕ
print_place (Ok n) = 0
print_place (Err (Undescribed p)) = p
print_place (Err (Refused r)) = Refusals.place r
print_place (Err (Unnamed i)) = i

-- the answer that a refusal of a reading is: proofs/Told.antt shows that it has the reading's number and place
abbrev pub refused_as : ℕ → ℕ → ReadRefusal
refused_as number place =
    cond (eqb number 14) (Description place) (cond (eqb number 15) (Word place) (cond (eqb number 16) (Name place) TokenCount))

-- "then 10": of tokens, literal rows and literal bytes, the first that is too short; "writing calls give each output's count"
abbrev pub read_answer : Reading → ℕ → ℕ → ℕ → Result Counts ReadRefusal
read_answer (read t r b) tokens rows content =
    cond (leb (length t) tokens)
    (cond (leb (length r) rows)
    (cond (leb (length b) content) (Ok (record { tokens = length t; literals = length r; bytes = length b })) (Err (Room (length b)))) (Err (Room (length r))))
    (Err (Room (length t)))
read_answer (refused number place) tokens rows content = Err (refused_as number place)

abbrev pub tokens_of : Reading → List ℕ
tokens_of (read t r b) = t
tokens_of (refused number place) = []

abbrev pub rows_of : Reading → List ℕ
rows_of (read t r b) = r
rows_of (refused number place) = []

abbrev pub content_of : Reading → List ℕ
content_of (read t r b) = b
content_of (refused number place) = []

-- an output: what is written, and the rest of it as it was; a refusal changes nothing
abbrev pub output_of : Result Counts ReadRefusal → List ℕ → List ℕ → List ℕ
output_of (Ok c) out before = out ++ drop (length out) before
output_of (Err r) out before = before

-- The whole answer of `read`, and its three outputs.
pub record ReadAs (reading : Reading) (tokens literals content : List ℕ) (r : Result Counts ReadRefusal) (tokens_after literals_after content_after : List ℕ) : Type 0 where
  pub answered : r ≡ read_answer reading (length tokens) (length literals) (length content)
  pub tokens_written : tokens_after ≡ output_of r (tokens_of reading) tokens
  pub literals_written : literals_after ≡ output_of r (rows_of reading) literals
  pub content_written : content_after ≡ output_of r (content_of reading) content

-- the answer that a refusal of printing is
abbrev pub unprinted_as : ℕ → ℕ → PrintRefusal
unprinted_as number place =
    cond (eqb number 14) (Undescribed place)
    (cond (eqb number 16) (Unnamed place)
    (Refused (cond (eqb number 3) LiteralTable (cond (eqb number 4) (LiteralRow place) (cond (eqb number 5) WrongCount (Token place))))))

abbrev pub print_answer : Print → ℕ → Result ℕ PrintRefusal
print_answer (text t) room = cond (leb (length t) room) (Ok (length t)) (Err (Refused (Short (length t))))
print_answer (unprinted number place) room = Err (unprinted_as number place)

abbrev pub line_of : Print → List ℕ
line_of (text t) = t
line_of (unprinted number place) = []

abbrev pub line_out : Result ℕ PrintRefusal → List ℕ → List ℕ → List ℕ
line_out (Ok n) out before = out ++ drop (length out) before
line_out (Err r) out before = before

-- The whole answer of `print`, and its output.
pub record PrintedAs (print : Print) (before : List ℕ) (r : Result ℕ PrintRefusal) (after : List ℕ) : Type 0 where
  pub answered : r ≡ print_answer print (length before)
  pub written : after ≡ line_out r (line_of print) before

-- What private functions promise. What a description has: how many items, names, literals and literal bytes; or the place of 14
abbrev pub named_as : Outcome → Result Book ℕ
named_as (table t) =
    Ok (record {
      items = length t.entries;
      places = length t.entries + length t.conditions;
      literals = length t.literals;
      bytes = length t.bytes;
    })
named_as (refusal p) = Err p

-- the places of its names, or FILLER, the items' first
abbrev pub places_in : Outcome → List ℕ
places_in (table t) = map (λ (e : Entry). e.named) t.entries ++ map (λ (c : Condition). c.named) t.conditions
places_in (refusal p) = []

-- the numbers of its literal rows
abbrev pub literals_in : Outcome → List ℕ
literals_in (table t) = numbers t.literals
literals_in (refusal p) = []

-- and its literal bytes
abbrev pub bytes_in : Outcome → List ℕ
bytes_in (table t) = t.bytes
bytes_in (refusal p) = []

-- The whole answer, and each list over the start of a lent buffer. The rest stays as it was: all of it, where the description is refused.
pub record NamedBy (description places rows bytes : List ℕ) (r : Result Book ℕ) (places_after rows_after bytes_after : List ℕ) : Type 0 where
  pub answered : r ≡ named_as (describe description)
  pub places_written : places_after ≡ written_over (places_in (describe description)) places
  pub rows_written : rows_after ≡ written_over (literals_in (describe description)) rows
  pub bytes_written : bytes_after ≡ written_over (bytes_in (describe description)) bytes

-- tokens, rows and bytes that a reading found, given where there is room
abbrev pub counted : List ℕ → List ℕ → List ℕ → Reading
counted t r b = cond (leb 1 (length t) && leb (length t) 256) (read t r b) (refused 5 0)

abbrev pub Gives : List ℕ → List ℕ → List ℕ → List ℕ → List ℕ → List ℕ → Result Counts ReadRefusal → List ℕ → List ℕ → List ℕ → Type 0
Gives t r b tokens literals content answer tokens_after literals_after content_after =
    ReadAs (counted t r b) tokens literals content answer tokens_after literals_after content_after

-- what 14 and 3 to 5 leave
pub record Sized (description : List ℕ) (items : ℕ) (places rows content tokens : List ℕ) : Type 0 where
  pub short : length description ≤ 4096
  pub listed : Listed items places
  pub table_sound : literal_table_check (lend [] rows content) ≡ Ok tt
  pub rows_sound : literal_row_check (lend [] rows content) ≡ Ok tt
  pub count_sound : token_count_check tokens ≡ Ok tt

-- and 6 and 16
pub record Prepared (description : List ℕ) (items : ℕ) (places rows content tokens : List ℕ) : Type 0 where
  pub sized : Sized description items places rows content tokens
  pub all_there : length tokens ≤ passing (printable (known_at description items places) rows) tokens
  pub all_named : length tokens ≤ passing (has_name (known_at description items places)) tokens
