-- Document 02, e) and h): what a condition text takes from a description. "Names come from text of a)"; "e) learns such names; its
-- literals begin with these."
use Rattle.std.specs.Prelude.{cond, List, [], ◌∷◌, ◌++◌, map, ℕ, drop}
use Rattle.description.specs.Grammar.{is_name_byte, Row, Table}

-- the name or FILLER at the head of these bytes: it goes as far as bytes go that a name may have
unfoldable pub leading : List ℕ → List ℕ
leading [] = []
leading (b ∷ bytes) = cond (is_name_byte b) (b ∷ leading bytes) []

-- the name or FILLER at each of these places
abbrev pub names_at : List ℕ → List ℕ → List (List ℕ)
names_at text places = map (λ (place : ℕ). leading (drop place text)) places

-- The names that a condition text may say: one for each item row (or FILLER), and one for each row of the name table.
pub record Known : Type 0 where
  pub items : List (List ℕ)
  pub conditions : List (List ℕ)

-- they are one set when it comes to 16
abbrev pub every_name : Known → List (List ℕ)
every_name known = known.items ++ known.conditions

abbrev pub known_by : List (List ℕ) → List (List ℕ) → Known
known_by items conditions = record { items = items; conditions = conditions }

abbrev pub known_of : List ℕ → Table → Known
known_of text t = known_by (names_at text (map (λ e. e.named) t.entries)) (names_at text (map (λ c. c.named) t.conditions))

-- the numbers of a description's literal rows, one row after the other
unfoldable pub numbers : List Row → List ℕ
numbers [] = []
numbers (r ∷ rs) = r.kind ∷ r.offset ∷ r.size ∷ r.scale ∷ r.digits ∷ numbers rs

-- Names, and the literal rows and bytes that those of a condition text go on from.
pub record Book : Type 0 where
  pub known : Known
  pub rows : List ℕ
  pub bytes : List ℕ

abbrev pub book : Known → List ℕ → List ℕ → Book
book known rows bytes = record { known = known; rows = rows; bytes = bytes }

abbrev pub book_of : List ℕ → Table → Book
book_of text t = book (known_of text t) (numbers t.literals) t.bytes
