-- What is copied of entries and of literals as the buffers hold them.
use Rattle.std.specs.Prelude.{◌≡◌, List, [], ◌∷◌, ◌++◌, ℕ, zero, suc, ◌+◌, ◌-◌, ◌*◌, ◌≤◌, ◌<◌, length, get_or, take, drop}
use Rattle.content.specs.declared.Row.{Row}
use Rattle.entries.specs.declared.Noted.{Noted}
use Rattle.literal_bytes.specs.Written.{literal_by}

-- the place of an entry's name or FILLER
abbrev pub named_of : Noted → ℕ
named_of x = x.named

-- Seven numbers of each literal: its row,
abbrev pub row_at : List ℕ → ℕ → List ℕ
row_at notes i =
    get_or notes (i * 7) 0 ∷ get_or notes (i * 7 + 1) 0 ∷ get_or notes (i * 7 + 2) 0 ∷ get_or notes (i * 7 + 3) 0 ∷ get_or notes (i * 7 + 4) 0 ∷ []

abbrev pub noted_row : List ℕ → ℕ → Row
noted_row notes i =
    record {
      kind = get_or notes (i * 7) 0;
      offset = get_or notes (i * 7 + 1) 0;
      size = get_or notes (i * 7 + 2) 0;
      scale = get_or notes (i * 7 + 3) 0;
      digits = get_or notes (i * 7 + 4) 0;
    }

-- and from where to where its word stands
abbrev pub word_at : List ℕ → List ℕ → ℕ → List ℕ
word_at text notes i = take (get_or notes (i * 7 + 6) 0 - get_or notes (i * 7 + 5) 0) (drop (get_or notes (i * 7 + 5) 0) text)

abbrev pub bytes_at : List ℕ → List ℕ → ℕ → List ℕ
bytes_at text notes i = (literal_by (get_or notes (i * 7) 0) (word_at text notes i)).bytes

-- n rows from index i on, and the bytes of n literals
unfoldable pub rows_from : List ℕ → ℕ → ℕ → List ℕ
rows_from notes i zero = []
rows_from notes i (suc n) = row_at notes i ++ rows_from notes (suc i) n

unfoldable pub bytes_from : List ℕ → List ℕ → ℕ → ℕ → List ℕ
bytes_from text notes i zero = []
bytes_from text notes i (suc n) = bytes_at text notes i ++ bytes_from text notes (suc i) n

-- A word stands in the text, in quotes if its literal is nonnumeric, and its bytes are laid after those of the literals before it.
pub record WordAt (text notes : List ℕ) (i : ℕ) : Type 0 where
  pub starts : get_or notes (i * 7 + 5) 0 ≤ get_or notes (i * 7 + 6) 0
  pub ends : get_or notes (i * 7 + 6) 0 ≤ length text
  pub quoted : get_or notes (i * 7) 0 ≡ 2 → 2 ≤ length (word_at text notes i)
  pub laid : get_or notes (i * 7 + 1) 0 ≡ length (bytes_from text notes 0 i)

pub record Words (text notes : List ℕ) (n : ℕ) : Type 0 where
  pub long : n * 7 ≤ length notes
  pub each : (i : ℕ) → i < n → WordAt text notes i
