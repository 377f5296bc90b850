-- Document 02, e): texts and what they are read as.
use Rattle.std.specs.Prelude.{◌≡◌, List, [], ◌∷◌, ℕ}
use Prim.Native.String.{String}
use Rattle.description.specs.Grammar.{bytes}
use Rattle.spelling.specs.Names.{Book, book, known_by}
use Rattle.spelling.specs.Reading.{Reading, read, refused, reading}
use Rattle.tables.specs.Words.{ALPHABETIC-LOWER, AND, CLOSE, EQUAL, GREATER, GREATER-OR-EQUAL, LESS, LESS-OR-EQUAL, NOT, OPEN, OR, literal_token, name_token, switch_token}

pub record Example : Type 0 where
  pub text : String
  pub gives : Reading

abbrev example : String → Reading → Example
example text gives = record { text = text; gives = gives }

abbrev pub items : List (List ℕ)
items = bytes "A" ∷ bytes "B" ∷ bytes "SERIAL-NO" ∷ bytes "FILLER" ∷ bytes "D" ∷ bytes "D" ∷ []

-- without condition-names
abbrev pub plain : Book
plain = book (known_by items []) [] []

-- level 88 entries OVERDUE, BOTH twice, SERIAL-NO, which is an item's name too, and LOST; their literals are 30 and "X"
abbrev pub named : Book
named =
    book (known_by items (bytes "OVERDUE" ∷ bytes "BOTH" ∷ bytes "BOTH" ∷ bytes "SERIAL-NO" ∷ bytes "LOST" ∷ []))
    (3 ∷ 0 ∷ 2 ∷ 0 ∷ 2 ∷ 2 ∷ 2 ∷ 1 ∷ 0 ∷ 0 ∷ []) (bytes "30X")

abbrev pub examples : List Example
examples =
    example "A IS GREATER THAN OR EQUAL TO 0.50" (read (0 ∷ GREATER-OR-EQUAL ∷ literal_token 0 ∷ []) (3 ∷ 0 ∷ 3 ∷ 2 ∷ 3 ∷ []) (bytes "050"))
    ∷ example "A >= 0.50" (read (0 ∷ GREATER-OR-EQUAL ∷ literal_token 0 ∷ []) (3 ∷ 0 ∷ 3 ∷ 2 ∷ 3 ∷ []) (bytes "050"))
    ∷ example "A>B AND NOT<.5 OR \"IT\"\"S\"" (read (0 ∷ GREATER ∷ 1 ∷ AND ∷ NOT ∷ LESS ∷ literal_token 0 ∷ OR ∷ literal_token 1 ∷ []) (3 ∷ 0 ∷ 1 ∷ 1 ∷ 1 ∷ 2 ∷ 1 ∷ 4 ∷ 0 ∷ 0 ∷ []) (bytes "5IT\"S"))
    ∷ example "SERIAL-NO IS NOT EQUAL TO -12\n" (read (2 ∷ NOT ∷ EQUAL ∷ literal_token 0 ∷ []) (5 ∷ 0 ∷ 3 ∷ 0 ∷ 2 ∷ []) (bytes "-12"))
    ∷ example "A > OR = B" (read (0 ∷ GREATER ∷ OR ∷ EQUAL ∷ 1 ∷ []) [] [])
    ∷ example "A LESS OR EQUAL B" (read (0 ∷ LESS-OR-EQUAL ∷ 1 ∷ []) [] [])
    ∷ example "A => B" (read (0 ∷ EQUAL ∷ GREATER ∷ 1 ∷ []) [] [])
    ∷ example "(UPSI-0 OR NOT UPSI-7)" (read (OPEN ∷ switch_token 0 ∷ OR ∷ NOT ∷ switch_token 7 ∷ CLOSE ∷ []) [] [])
    ∷ example "A IS ALPHABETIC-LOWER" (read (0 ∷ ALPHABETIC-LOWER ∷ []) [] [])
    ∷ example "" (refused 5 0)
    ∷ example "A IS IS B" (refused 15 5)
    ∷ example "A > THAN B" (refused 15 4)
    ∷ example "A GREATER OR THAN B" (refused 15 13)
    ∷ example "A = 5." (refused 15 4)
    ∷ example "A = \"\"" (refused 15 4)
    ∷ example "A = \"B" (refused 15 4)
    ∷ example "A = 1234567890123456789" (refused 15 4)
    ∷ example "A = b" (refused 15 4)
    ∷ example "A = B- OR C" (refused 15 4)
    ∷ example "A = C OR b" (refused 16 4)
    ∷ example "A = D" (refused 16 4)
    ∷ example "A = FILLER" (refused 15 4)
    ∷ example "UPSI-8" (refused 16 0)
    ∷ example "A = COMP-3" (refused 15 4)
    ∷ example "A>B OR\"C\"" (refused 15 4)
    ∷ example "A = VALUE" (refused 15 4)
    ∷ example "A = THRU" (refused 15 4)
    ∷ example "OVERDUE" (refused 16 0)
    ∷ []

-- h): the same with condition-names and a description's literals
abbrev pub named_examples : List Example
named_examples =
    example "NOT OVERDUE AND A > 0.5 OR LOST"
    (read (NOT ∷ name_token 0 ∷ AND ∷ 0 ∷ GREATER ∷ literal_token 2 ∷ OR ∷ name_token 4 ∷ [])
    (3 ∷ 0 ∷ 2 ∷ 0 ∷ 2 ∷ 2 ∷ 2 ∷ 1 ∷ 0 ∷ 0 ∷ 3 ∷ 3 ∷ 2 ∷ 1 ∷ 2 ∷ []) (bytes "30X05"))
    ∷ example "OVERDUE" (read (name_token 0 ∷ []) (3 ∷ 0 ∷ 2 ∷ 0 ∷ 2 ∷ 2 ∷ 2 ∷ 1 ∷ 0 ∷ 0 ∷ []) (bytes "30X"))
    ∷ example "OVERDUE IS NUMERIC" (refused 15 8)
    ∷ example "A = BOTH" (refused 16 4)
    ∷ example "A = SERIAL-NO" (refused 16 4)
    ∷ example "OVERDUE- OR LOST" (refused 15 0)
    ∷ []

abbrev pub AllGive : Book → List Example → Type 0
AllGive b [] = Unit {0}
AllGive b (e ∷ es) = (reading b (bytes e.text) ≡ e.gives) × AllGive b es
