-- What is gathered from a text, piece by piece.
use Rattle.std.specs.Prelude.{◌≡◌, cond, Option, Some, None, Result, Ok, Err, List, [], ◌∷◌, ◌++◌, map, ℕ, ◌+◌, ◌*◌, ◌≤◌, ◌<◌, ltb, length, take, drop, set}
use Rattle.content.specs.declared.Row.{Row}
use Rattle.spelling.specs.Names.{Known, Book, book}
use Rattle.spelling.specs.Literals.{Literal, row_of_literal, laid}
use Rattle.spelling.specs.Keywords.{Piece as Spelt, token, literal, fault}
use Rattle.spelling.specs.Reading.{Placed, pieces_from, placed, pieces, Found, none, refusal, first_fault, fault_of, tokens_from, rows_from, bytes_of, literals_before, tokens_of}
use Rattle.splitter.specs.Splits.{words_at, between}
use Rattle.literal_bytes.specs.Written.{literal_by}
use Rattle.senses.specs.declared.Piece.{Piece}
use Rattle.senses.specs.Senses.{met_of}
use Rattle.lexer.specs.declared.Gathered.{Gathered}
use Rattle.lexer.specs.declared.Fault.{Fault}
use Rattle.content.specs.Kinds.{kind_alphanumeric, row_width}

-- a list with other numbers from a place on
abbrev pub over_at : ℕ → List ℕ → List ℕ → List ℕ
over_at at new old = take at old ++ (new ++ drop (at + length new) old)

-- the same row, its bytes laid at an offset
abbrev pub moved_to : ℕ → Row → Row
moved_to offset r = record { kind = r.kind; offset = offset; size = r.size; scale = r.scale; digits = r.digits }

-- the pieces of a text from a place on
abbrev pub left : Known → List ℕ → ℕ → List Placed
left known text at = pieces_from known 0 (words_at text at)

abbrev pub left_pieces : Known → List ℕ → ℕ → List Spelt
left_pieces known text at = map (λ (x : Placed). x.piece) (left known text at)

-- room for every token, row and byte of a text whose words start before byte 2,048, after the literals of a description: these have at
-- most 4,096 bytes
pub record Rooms (tokens rows bytes : List ℕ) : Type 0 where
  pub tokens_room : 2048 ≤ length tokens
  pub rows_room : 320 ≤ length rows
  pub bytes_room : 6400 ≤ length bytes

-- what a text comes to, after the literals of a book
pub record Total : Type 0 where
  pub tokens : List ℕ
  pub rows : List ℕ
  pub bytes : List ℕ
  pub fault : Found

abbrev pub total_of : Book → List ℕ → Total
total_of b text =
    record {
      tokens = tokens_of b (pieces b.known text);
      rows = b.rows ++ rows_from (length b.bytes) (pieces b.known text);
      bytes = b.bytes ++ bytes_of (pieces b.known text);
      fault = first_fault (literals_before b) (placed b.known text);
    }

-- the first `literals` rows and `content` bytes are the description's
abbrev pub book_in : Known → ℕ → ℕ → List ℕ → List ℕ → Book
book_in known literals content rows bytes = book known (take (literals * row_width) rows) (take content bytes)

-- What is gathered, with what is left, is the whole.
pub record Gathers (known : Known) (text : List ℕ) (w : Total) (g : Gathered) (tokens rows bytes : List ℕ) : Type 0 where
  pub tokens_are : w.tokens ≡ take g.tokens tokens ++ tokens_from g.literals (left_pieces known text g.past)
  pub rows_are : w.rows ≡ take (g.literals * row_width) rows ++ rows_from g.bytes (left_pieces known text g.past)
  pub bytes_are : w.bytes ≡ take g.bytes bytes ++ bytes_of (left_pieces known text g.past)
  pub fault_is : w.fault ≡ first_fault g.literals (left known text g.past)

pub record Bounds (text : List ℕ) (g : Gathered) : Type 0 where
  pub within : g.past ≤ length text
  pub few_tokens : g.tokens ≤ g.past
  pub few_literals : g.literals ≤ 64
  pub few_bytes : g.bytes ≤ 4096 + g.past

-- Before a step: the next word starts in time.
pub record Ready (text : List ℕ) (g : Gathered) (tokens rows bytes : List ℕ) : Type 0 where
  pub soon : g.past < 2048
  pub rooms : Rooms tokens rows bytes
  pub bounds : Bounds text g

-- a literal and the word that writes it
pub record Made (word : List ℕ) (l : Literal) : Type 0 where
  pub by : l ≡ literal_by l.kind word
  pub short : length l.bytes ≤ length word
  pub small : length l.bytes ≤ 256
  pub quoted : l.kind ≡ kind_alphanumeric → 2 ≤ length word

abbrev pub MadeBy : List ℕ → Spelt → Type 0
MadeBy word (token t) = Unit {0}
MadeBy word (literal l) = Made word l
MadeBy word (fault number) = Unit {0}

-- the next piece, of the word from `at` to `end`
pub record Meets (known : Known) (text : List ℕ) (past at end : ℕ) (r : Piece) : Type 0 where
  pub spelt : Spelt
  pub met : r.met ≡ met_of spelt
  pub made : MadeBy (between text at end) spelt
  pub next : left known text past ≡ record { place = at; piece = spelt } ∷ left known text r.past
  pub not_before : past ≤ at
  pub some : at < end
  pub inside : end ≤ r.past
  pub within : r.past ≤ length text

abbrev pub with_token : Gathered → ℕ → Gathered
with_token g past = record { tokens = g.tokens + 1; literals = g.literals; bytes = g.bytes; past = past }

abbrev pub with_literal : Gathered → ℕ → ℕ → Gathered
with_literal g size past = record { tokens = g.tokens + 1; literals = g.literals + 1; bytes = g.bytes + size; past = past }

-- room for one literal more
pub record LiteralRoom (row : Row) (word : List ℕ) (g : Gathered) (tokens rows bytes : List ℕ) : Type 0 where
  pub token_room : g.tokens < length tokens
  pub few : g.literals < 64
  pub row_room : g.literals * row_width + row_width ≤ length rows
  pub near : g.bytes ≤ 65535
  pub room : g.bytes + row.size ≤ length bytes
  pub size : length (literal_by row.kind word).bytes ≡ row.size
  pub small : row.size ≤ 256
  pub quoted : row.kind ≡ kind_alphanumeric → 2 ≤ length word

pub record LiteralLaid (row : Row) (word : List ℕ) (g : Gathered) (past : ℕ) (tokens rows bytes : List ℕ) (r : Gathered) (tokens_after rows_after bytes_after : List ℕ) : Type 0 where
  pub counts : r ≡ with_literal g row.size past
  pub token_laid : tokens_after ≡ set tokens g.tokens (65536 + g.literals)
  pub row_laid : rows_after ≡ over_at (g.literals * row_width) (laid (moved_to g.bytes row)) rows
  pub bytes_laid : bytes_after ≡ over_at g.bytes (literal_by row.kind word).bytes bytes

-- Beyond what is gathered the buffers are as they were.
pub record Beyond (g : Gathered) (tokens rows bytes tokens_after rows_after bytes_after : List ℕ) : Type 0 where
  pub tokens_stay : drop g.tokens tokens_after ≡ drop g.tokens tokens
  pub rows_stay : drop (g.literals * row_width) rows_after ≡ drop (g.literals * row_width) rows
  pub bytes_stay : drop g.bytes bytes_after ≡ drop g.bytes bytes

-- the buffers as they were
pub record Same (tokens rows bytes tokens_after rows_after bytes_after : List ℕ) : Type 0 where
  pub tokens_stay : tokens_after ≡ tokens
  pub rows_stay : rows_after ≡ rows
  pub bytes_stay : bytes_after ≡ bytes

-- no count falls, and the text is read on
pub record Grows (g next : Gathered) : Type 0 where
  pub tokens_grow : g.tokens ≤ next.tokens
  pub literals_grow : g.literals ≤ next.literals
  pub bytes_grow : g.bytes ≤ next.bytes
  pub read_on : g.past < next.past

-- What is gathered, with what is left, stays the whole.
abbrev pub Keeps : Known → List ℕ → Gathered → List ℕ → List ℕ → List ℕ → Gathered → List ℕ → List ℕ → List ℕ → Type 0
Keeps known text g tokens rows bytes next tokens_after rows_after bytes_after =
    (w : Total) → Gathers known text w g tokens rows bytes → Gathers known text w next tokens_after rows_after bytes_after

-- after a step: gathered with one piece more; nothing left; or the first fault
abbrev pub StepGives : Known → List ℕ → Gathered → List ℕ → List ℕ → List ℕ → Result (Option Gathered) Fault → List ℕ → List ℕ → List ℕ → Type 0
StepGives known text g tokens rows bytes (Ok (Some next)) tokens_after rows_after bytes_after =
    Keeps known text g tokens rows bytes next tokens_after rows_after bytes_after × Bounds text next × Grows g next
    × Beyond next tokens rows bytes tokens_after rows_after bytes_after
StepGives known text g tokens rows bytes (Ok None) tokens_after rows_after bytes_after =
    Same tokens rows bytes tokens_after rows_after bytes_after × (left known text g.past ≡ [])
StepGives known text g tokens rows bytes (Err f) tokens_after rows_after bytes_after =
    Same tokens rows bytes tokens_after rows_after bytes_after
    × ((w : Total) → Gathers known text w g tokens rows bytes → w.fault ≡ refusal f.number f.place) × (f.place < length text)

pub record Steps (known : Known) (text : List ℕ) (g : Gathered) (tokens rows bytes : List ℕ) (r : Result (Option Gathered) Fault) (tokens_after rows_after bytes_after : List ℕ) : Type 0 where
  pub gives : StepGives known text g tokens rows bytes r tokens_after rows_after bytes_after

abbrev pub early_by : Fault → Fault
early_by f = cond (ltb f.place 2048) f (record { number = 15; place = 2048 })

-- all that is gathered of a text without a fault, after the literals of a book
pub record Holds (b : Book) (text : List ℕ) (g : Gathered) (tokens rows bytes tokens_after rows_after bytes_after : List ℕ) : Type 0 where
  pub faultless : fault_of b.known (literals_before b) text ≡ none
  pub tokens_are : (total_of b text).tokens ≡ take g.tokens tokens_after
  pub rows_are : (total_of b text).rows ≡ take (g.literals * row_width) rows_after
  pub bytes_are : (total_of b text).bytes ≡ take g.bytes bytes_after
  pub beyond : Beyond g tokens rows bytes tokens_after rows_after bytes_after
  pub few_tokens : g.tokens ≤ 2048
  pub few_literals : g.literals ≤ 64
  pub few_bytes : g.bytes ≤ 6144

-- A fault. Free: `gathered`, how far the text was gathered before it was found.
pub record Stopped (b : Book) (text : List ℕ) (number place : ℕ) (tokens rows bytes tokens_after rows_after bytes_after : List ℕ) : Type 0 where
  pub faulty : fault_of b.known (literals_before b) text ≡ refusal number place
  pub gathered : Gathered
  pub gathers : Gathers b.known text (total_of b text) gathered tokens_after rows_after bytes_after
  pub beyond : Beyond gathered tokens rows bytes tokens_after rows_after bytes_after

abbrev pub LexedGives : Book → List ℕ → List ℕ → List ℕ → List ℕ → Result Gathered Fault → List ℕ → List ℕ → List ℕ → Type 0
LexedGives b text tokens rows bytes (Ok g) tokens_after rows_after bytes_after = Holds b text g tokens rows bytes tokens_after rows_after bytes_after
LexedGives b text tokens rows bytes (Err f) tokens_after rows_after bytes_after =
    Stopped b text f.number f.place tokens rows bytes tokens_after rows_after bytes_after

pub record Lexes (b : Book) (text tokens rows bytes : List ℕ) (r : Result Gathered Fault) (tokens_after rows_after bytes_after : List ℕ) : Type 0 where
  pub gives : LexedGives b text tokens rows bytes r tokens_after rows_after bytes_after
