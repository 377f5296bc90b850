-- Document 02, e): a condition text as tokens, literal rows and literal bytes, or its refusal.
use Rattle.std.specs.Prelude.{Bool, cond, ◌&&◌, List, [], ◌∷◌, ◌++◌, map, ℕ, zero, suc, ◌+◌, length, leb, ltb}
use Rattle.description.specs.Grammar.{Word}
use Rattle.description.specs.Limits.{Outcome, table, refusal as faulty, describe}
use Rattle.tables.specs.Rows.{row_count}
use Rattle.spelling.specs.Words.{words}
use Rattle.spelling.specs.Literals.{Literal, row_of_literal, laid}
use Rattle.spelling.specs.Names.{Known, Book, book_of}
use Rattle.spelling.specs.Keywords.{Piece, token, literal, fault}
use Rattle.spelling.specs.Meanings.{meaning, joins, piece_of}

-- a piece and the place of its first byte
pub record Placed : Type 0 where
  pub place : ℕ
  pub piece : Piece

-- the pieces of the words; the first `skip` of them have joined the word before
unfoldable pub pieces_from : Known → ℕ → List Word → List Placed
pieces_from known skip [] = []
pieces_from known (suc skip) (w ∷ ws) = pieces_from known skip ws
pieces_from known zero (w ∷ ws) =
    record { place = w.place; piece = piece_of (meaning known w.text) ws }
    ∷ pieces_from known (joins (meaning known w.text) ws) ws

abbrev pub placed : Known → List ℕ → List Placed
placed known text = pieces_from known 0 (words text)

abbrev pub pieces : Known → List ℕ → List Piece
pieces known text = map (λ x. x.piece) (placed known text)

-- a refusal's number and place, or none
pub data Found : Type 0 where
  none : Found
  refusal : ℕ → ℕ → Found

abbrev pub before : Found → Found → Found
before none later = later
before (refusal number place) later = refusal number place

-- the refusal of a piece at a place, before which n literals stand: "a 65th [literal] .. is refused with 15"
abbrev pub fault_at : ℕ → ℕ → Piece → Found
fault_at n place (token t) = none
fault_at n place (literal l) = cond (ltb n 64) none (refusal 15 place)
fault_at n place (fault number) = refusal number place

-- how many literals stand before the next piece
abbrev pub after : ℕ → Piece → ℕ
after n (token t) = n
after n (literal l) = suc n
after n (fault number) = n

-- "at its first byte; the smallest place wins": the first one
unfoldable pub first_fault : ℕ → List Placed → Found
first_fault n [] = none
first_fault n (x ∷ xs) = before (fault_at n x.place x.piece) (first_fault (after n x.piece) xs)

-- "byte 2,048 is refused with 15"
abbrev pub or_too_long : Found → Found
or_too_long none = refusal 15 2048
or_too_long (refusal number place) = cond (ltb place 2048) (refusal number place) (refusal 15 2048)

-- n literals stand before the text's: "its literals begin with these"
abbrev pub fault_of : Known → ℕ → List ℕ → Found
fault_of known n text =
    cond (leb (length text) 2048) (first_fault n (placed known text)) (or_too_long (first_fault n (placed known text)))

-- "into tokens, literal rows and literal bytes, laid in turn"; "Each literal met adds a row." Before these pieces stand n rows and
-- `offset` bytes.
unfoldable pub tokens_from : ℕ → List Piece → List ℕ
tokens_from n [] = []
tokens_from n (token t ∷ ps) = t ∷ tokens_from n ps
tokens_from n (literal l ∷ ps) = (65536 + n) ∷ tokens_from (suc n) ps
tokens_from n (fault number ∷ ps) = tokens_from n ps

unfoldable pub rows_from : ℕ → List Piece → List ℕ
rows_from offset [] = []
rows_from offset (token t ∷ ps) = rows_from offset ps
rows_from offset (literal l ∷ ps) =
    laid (row_of_literal offset l) ++ rows_from (offset + length l.bytes) ps
rows_from offset (fault number ∷ ps) = rows_from offset ps

unfoldable pub bytes_of : List Piece → List ℕ
bytes_of [] = []
bytes_of (token t ∷ ps) = bytes_of ps
bytes_of (literal l ∷ ps) = l.bytes ++ bytes_of ps
bytes_of (fault number ∷ ps) = bytes_of ps

-- what a reading gives: tokens, literal rows, literal bytes; or a refusal
pub data Reading : Type 0 where
  read : List ℕ → List ℕ → List ℕ → Reading
  refused : ℕ → ℕ → Reading

-- "its literals begin with these": rows, row numbers and offsets go on from the description's
abbrev pub literals_before : Book → ℕ
literals_before b = row_count b.rows

abbrev pub tokens_of : Book → List Piece → List ℕ
tokens_of b ps = tokens_from (literals_before b) ps

-- "the smallest place wins, then 5": no token, or over 256
abbrev pub result : Book → Found → List Piece → Reading
result b none ps =
    cond (leb 1 (length (tokens_of b ps)) && leb (length (tokens_of b ps)) 256)
    (read (tokens_of b ps) (b.rows ++ rows_from (length b.bytes) ps) (b.bytes ++ bytes_of ps))
    (refused 5 0)
result b (refusal number place) ps = refused number place

unfoldable pub reading : Book → List ℕ → Reading
reading b text = result b (fault_of b.known (literals_before b) text) (pieces b.known text)

-- "Names come from text of a), its 14 first."
abbrev pub read_after : List ℕ → Outcome → List ℕ → Reading
read_after description (table t) text = reading (book_of description t) text
read_after description (faulty place) text = refused 14 place

abbrev pub read_condition : List ℕ → List ℕ → Reading
read_condition description text = read_after description (describe description) text
