-- Entries in a buffer, seven numbers each, and what reading a text leaves there.
use Rattle.std.specs.Prelude.{◌≡◌, Bool, true, false, cond, List, [], ◌∷◌, map, ℕ, zero, suc, ◌+◌, ◌*◌, ◌≤◌, eqb, get_or, set}
use Rattle.description.specs.Grammar.{Entry}
use Rattle.entries.specs.declared.Noted.{Noted}
use Rattle.entries.specs.Entries.{noted, cap_noted, entry_of}
use Rattle.content.specs.Kinds.{kind_group}

abbrev pub numbers_of : Noted → List ℕ
numbers_of x = x.level ∷ x.place ∷ x.named ∷ x.kind ∷ x.size ∷ x.scale ∷ x.digits ∷ []

-- the entry at index i
abbrev pub noted_at : List ℕ → ℕ → Noted
noted_at flat i =
    noted (get_or flat (i * 7) 0) (get_or flat (i * 7 + 1) 0) (get_or flat (i * 7 + 2) 0) (get_or flat (i * 7 + 3) 0) (get_or flat (i * 7 + 4) 0) (get_or flat (i * 7 + 5) 0)
    (get_or flat (i * 7 + 6) 0)

-- n entries from index i on
unfoldable pub noted_from : List ℕ → ℕ → ℕ → List Noted
noted_from flat i zero = []
noted_from flat i (suc n) = noted_at flat i ∷ noted_from flat (suc i) n

abbrev pub pushed : List ℕ → ℕ → ℕ → List ℕ
pushed stack zero l = stack
pushed stack (suc d) l = set stack d l

-- one more than the level of a group, which waits for its first member
abbrev pub waiting_after : Noted → ℕ
waiting_after x = cond (eqb x.kind kind_group) (x.level + 1) 0

-- No scale is above its digits.
abbrev pub Scaled : List Noted → Type 0
Scaled [] = Unit {0}
Scaled (y ∷ ys) = (y.scale ≤ y.digits) × Scaled ys
