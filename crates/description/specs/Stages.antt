-- The reader word by word, as the code goes: how far the word at a place goes on as one that may stand there, and what it then is.
-- That this is the reader of specs/Reader.antt: proofs/Stages.antt.
use Rattle.std.specs.Prelude.{Bool, true, false, cond, ◌&&◌, ◌||◌, List, [], ◌∷◌, ◌++◌, ℕ, suc, ◌+◌, ◌*◌, ◌-◌, ◌/◌, eqb, leb, length, get_or, take, drop, Result, Ok, Err}
use Rattle.std.proofs.Math.Option
use Rattle.std.proofs.Math.Option.{Option, none, some}
use Rattle.description.specs.Machine.{run, after, result}
use Rattle.description.specs.Words.{mid, machine}
use Rattle.description.specs.Grammar.{bytes, is_blank, ended, Shape, characters, number, packed_kind, Content, group, item, Entry, Row, row, Literal, literal}
use Rattle.description.specs.Reader.{is_some, Groups, enters, begins_level, begins_name, is_name, is_called, nothing, pictures, unspelt, spelling, read_literal, ended_by, State, descriptions, parts_of, Reading, read, faulty, reading}
use Rattle.description.specs.Limits.{Mark, smaller}
use Rattle.description.specs.declared.Called.{Called}
use Rattle.description.specs.declared.Called.TheVariants as Called
use Rattle.description.specs.declared.Pictured.{Pictured}
use Rattle.description.specs.declared.Pictured.TheVariants as Pictured
use Rattle.description.specs.declared.Sided.{Sided}
use Rattle.description.specs.declared.Clauses.{Clauses}
use Rattle.description.specs.declared.Spelled.{Spelled}
use Rattle.description.specs.declared.Spelled.TheVariants as Spelled
use Rattle.description.specs.declared.Leveled.{Leveled}
use Rattle.description.specs.declared.Leveled.TheVariants as Leveled
use Rattle.content.specs.Kinds.{kind_sign_leading, kind_sign_trailing}

-- how many blanks stand first
unfoldable pub blanks : List ℕ → ℕ
blanks [] = 0
blanks (b ∷ bs) = cond (is_blank b) (suc (blanks bs)) 0

-- the first place from n on that holds no blank, or the end
abbrev pub inked : List ℕ → ℕ → ℕ
inked text n = n + blanks (drop n text)

-- with how many of these bytes the word u goes on, each beginning of it passing the test
unfoldable pub reach : (List ℕ → Bool) → List ℕ → List ℕ → ℕ
reach test u [] = 0
reach test u (b ∷ bs) = cond (test (u ++ b ∷ [])) (suc (reach test (u ++ b ∷ []) bs)) 0

-- how many bytes the two have in common at their beginning
unfoldable pub common : List ℕ → List ℕ → ℕ
common [] bs = 0
common (a ∷ w) [] = 0
common (a ∷ w) (b ∷ bs) = cond (eqb b a) (suc (common w bs)) 0

abbrev pub met : ℕ → ℕ → ℕ → Result ℕ ℕ
met l p m = cond (eqb m l) (Ok (p + m)) (Err (p + m))

-- This word, after a blank at n.
abbrev pub literal_at : List ℕ → List ℕ → ℕ → Result ℕ ℕ
literal_at word text n = cond (eqb (inked text n) n) (Err n) (met (length word) (inked text n) (common word (drop (inked text n) text)))

abbrev pub called_at : ℕ → ℕ → Bool → Bool → Result Called ℕ
called_at l k called period = cond called (cond (period && leb l 48) (Ok (Called.Group (k + 1))) (Ok (Called.Item k))) (Err k)

-- how many bytes from a place on may begin a name
abbrev pub name_reach : List ℕ → ℕ → ℕ
name_reach text p = reach begins_name [] (drop p text)

abbrev pub is_period : List ℕ → ℕ → Bool
is_period text k = eqb (get_or text k 0) 0x2e

-- A name or FILLER from place p on, of an entry of level l.
abbrev pub name_from : ℕ → List ℕ → ℕ → Result Called ℕ
name_from l text p =
    called_at l (p + name_reach text p) (is_called (take (name_reach text p) (drop p text))) (is_period text (p + name_reach text p))

abbrev pub name_at : ℕ → List ℕ → ℕ → Result Called ℕ
name_at l text n = cond (eqb (inked text n) n) (Err n) (name_from l text (inked text n))

-- how many bytes from a place on may begin a picture
abbrev pub picture_reach : List ℕ → ℕ → ℕ
picture_reach text p = reach (λ u. is_some (after pictures nothing u)) [] (drop p text)

abbrev pub shape_from : List ℕ → ℕ → Option Shape
shape_from text p = result pictures nothing (take (picture_reach text p) (drop p text))

abbrev pub clauses : ℕ → ℕ → ℕ → ℕ → ℕ → Clauses
clauses k n s t e = record { kind = k; size = n; scale = s; digits = t; end = e }

abbrev pub ended_picture : ℕ → Shape → Result Pictured ℕ
ended_picture k (characters c n) = Ok (Pictured.Ended (clauses c n 0 0 k))
ended_picture k (number false i j) = Ok (Pictured.Ended (clauses 3 (i + j) j (i + j) k))
ended_picture k (number true i j) = Ok (Pictured.Ended (clauses 4 (i + j) j (i + j) k))

abbrev pub open_picture : ℕ → Shape → Result Pictured ℕ
open_picture k (characters c n) = Err k
open_picture k (number s i j) = Ok (Pictured.Number s i j k)

abbrev pub pictured : ℕ → Option Shape → Bool → Result Pictured ℕ
pictured k none period = Err k
pictured k (some s) true = ended_picture (k + 1) s
pictured k (some s) false = open_picture k s

abbrev pub picture_from : List ℕ → ℕ → Result Pictured ℕ
picture_from text p = pictured (p + picture_reach text p) (shape_from text p) (is_period text (p + picture_reach text p))

abbrev pub picture_at : List ℕ → ℕ → Result Pictured ℕ
picture_at text n = cond (eqb (inked text n) n) (Err n) (picture_from text (inked text n))

abbrev pub sided : ℕ → Result ℕ ℕ → Result Sided ℕ
sided kind (Ok k) = Ok (record { kind = kind; end = k })
sided kind (Err k) = Err k

-- "LEADING or TRAILING": no word begins as both
abbrev pub side_at : List ℕ → ℕ → Result Sided ℕ
side_at text n =
    cond (eqb (get_or text (inked text n) 0) 0x54) (sided kind_sign_trailing (literal_at (bytes "TRAILING") text n)) (sided kind_sign_leading (literal_at (bytes "LEADING") text n))

abbrev pub after_separate : ℕ → ℕ → ℕ → Result ℕ ℕ → Result Clauses ℕ
after_separate kind i j (Ok k) = Ok (clauses kind (i + j + 1) j (i + j) k)
after_separate kind i j (Err k) = Err k

abbrev pub after_side : List ℕ → ℕ → ℕ → Result Sided ℕ → Result Clauses ℕ
after_side text i j (Ok s) = after_separate s.kind i j (literal_at (ended (bytes "SEPARATE")) text s.end)
after_side text i j (Err k) = Err k

abbrev pub after_sign : List ℕ → ℕ → ℕ → Result ℕ ℕ → Result Clauses ℕ
after_sign text i j (Ok k) = after_side text i j (side_at text k)
after_sign text i j (Err k) = Err k

-- The sign clause after a picture of i and j digits.
unfoldable pub sign_at : ℕ → ℕ → List ℕ → ℕ → Result Clauses ℕ
sign_at i j text n = after_sign text i j (literal_at (bytes "SIGN") text n)

abbrev pub after_packed : Bool → ℕ → ℕ → Result ℕ ℕ → Result Clauses ℕ
after_packed s i j (Ok k) = Ok (clauses (packed_kind s) ((i + j) / 2 + 1) j (i + j) k)
after_packed s i j (Err k) = Err k

-- COMP-3 after a picture of i and j digits, signed or not.
unfoldable pub packed_at : Bool → ℕ → ℕ → List ℕ → ℕ → Result Clauses ℕ
packed_at s i j text n = after_packed s i j (literal_at (ended (bytes "COMP-3")) text n)

-- "COMP-3 .. in SIGN's place, with or without S": no word begins as both
unfoldable pub usage_at : Bool → ℕ → ℕ → List ℕ → ℕ → Result Clauses ℕ
usage_at s i j text n = cond (s && eqb (get_or text (inked text n) 0) 0x53) (sign_at i j text n) (packed_at s i j text n)

abbrev pub after_picture : List ℕ → Result Pictured ℕ → Result Clauses ℕ
after_picture text (Ok (Pictured.Ended x)) = Ok x
after_picture text (Ok (Pictured.Number s i j k)) = usage_at s i j text k
after_picture text (Err k) = Err k

abbrev pub after_pic : List ℕ → Result ℕ ℕ → Result Clauses ℕ
after_pic text (Ok k) = after_picture text (picture_at text k)
after_pic text (Err k) = Err k

-- What follows an item's name.
unfoldable pub clauses_at : List ℕ → ℕ → Result Clauses ℕ
clauses_at text n = after_pic text (literal_at (bytes "PIC") text n)

-- The name of a level 88 entry from place p on: no FILLER, no period.
abbrev pub label_from : List ℕ → ℕ → Result ℕ ℕ
label_from text p =
    cond (is_name (take (name_reach text p) (drop p text))) (Ok (p + name_reach text p)) (Err (p + name_reach text p))

abbrev pub label_at : List ℕ → ℕ → Result ℕ ℕ
label_at text n = cond (eqb (inked text n) n) (Err n) (label_from text (inked text n))

-- how many bytes from a place on may begin a literal
abbrev pub literal_reach : List ℕ → ℕ → ℕ
literal_reach text p = reach (λ u. is_some (after spelling unspelt u)) [] (drop p text)

-- whether a word is a literal, and whether it is one and a period
abbrev pub is_literal : List ℕ → Bool
is_literal w = is_some (read_literal w)

abbrev pub is_ended : List ℕ → Bool
is_ended w = ended_by is_literal w

-- What a literal may be goes on as far as k: a period after it ends it, or its own point was that period.
abbrev pub spelled : ℕ → Bool → Bool → Bool → Result Spelled ℕ
spelled k whole period point = cond whole (cond period (Ok (Spelled.Ended k)) (Ok (Spelled.Open k))) (cond point (Ok (Spelled.Ended (k - 1))) (Err k))

abbrev pub spelled_from : List ℕ → ℕ → Result Spelled ℕ
spelled_from text p =
    spelled (p + literal_reach text p) (is_literal (take (literal_reach text p) (drop p text))) (is_period text (p + literal_reach text p))
    (is_ended (take (literal_reach text p) (drop p text)))

-- A literal after a blank at n.
abbrev pub spelled_at : List ℕ → ℕ → Result Spelled ℕ
spelled_at text n = cond (eqb (inked text n) n) (Err n) (spelled_from text (inked text n))

-- the literal from p to k
abbrev pub literal_in : List ℕ → ℕ → ℕ → Literal
literal_in text p k = Option.get_or (read_literal (take (k - p) (drop p text))) (literal 0 [] 0)

-- A level number of two digits may stand here; 88 may; or a level number that may begins with the first digit.
abbrev pub leveled : ℕ → Bool → Bool → Bool → ℕ → Result Leveled ℕ
leveled p true name begun l = Ok (Leveled.Level l)
leveled p false true begun l = Ok Leveled.Name
leveled p false false true l = Err (p + 1)
leveled p false false false l = Err p

abbrev pub is_eight : ℕ → Bool
is_eight b = eqb b 0x38

-- A level number at place p; 88 may stand where an item's entry came before it.
abbrev pub level_at : Groups → Bool → List ℕ → ℕ → Result Leveled ℕ
level_at g named text p =
    leveled p (enters g (get_or text p 0 ∷ get_or text (p + 1) 0 ∷ [])) (named && (is_eight (get_or text p 0) && is_eight (get_or text (p + 1) 0)))
    (begins_level g (get_or text p 0 ∷ []) || (named && is_eight (get_or text p 0)))
    (10 * (get_or text p 0 - 0x30) + (get_or text (p + 1) 0 - 0x30))

-- The reading of the text from place n on, in a state between words.
abbrev pub onward : List ℕ → ℕ → State → Reading
onward text n q = reading (run (machine descriptions) n (mid q n []) (drop n text))

abbrev pub parted : List ℕ → Bool
parted [] = true
parted (b ∷ bs) = is_blank b

-- The same after a word that ends at e: a blank or the end follows it.
abbrev pub joined : List ℕ → ℕ → State → Reading
joined text e q = cond (parted (drop e text)) (onward text e q) (faulty (parts_of q) e)

-- The place of the first entry over a limit; and the smaller of two.
unfoldable pub first_over : List Mark → Option ℕ
first_over [] = none
first_over (m ∷ ms) = cond m.over (some m.place) (first_over ms)

abbrev pub sooner : Option ℕ → Option ℕ → Option ℕ
sooner none o = o
sooner (some p) o = some (smaller p o)

-- What an item's own entry tells of its row: all that its values are compared by.
abbrev pub own_row : Content → Row
own_row group = row 0 0 0 0 0
own_row (item k n s t) = row k 0 n s t

unfoldable pub own_rows : List Entry → List Row
own_rows [] = []
own_rows (e ∷ es) = own_row e.content ∷ own_rows es
