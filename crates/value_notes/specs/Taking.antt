-- Values of level 88 entries as the code stores them.
use Rattle.std.specs.Prelude.{◌≡◌, Bool, true, false, ◌||◌, List, [], ◌∷◌, ℕ, ◌+◌, ◌*◌, ◌≤◌, leb, ltb, length}
use Rattle.std.proofs.lemmas.List.Edits.{sets}
use Rattle.content.specs.declared.Row as Rules
use Rattle.description.specs.Grammar.{Row, literal, literals}
use Rattle.condition_names.specs.declared.Found.{Found}
use Rattle.value_weights.specs.declared.Weighed.{Weighed}
use Rattle.value_weights.specs.declared.Weighed.TheVariants.{Barred, Single, Range}
use Rattle.value_notes.specs.declared.Tally.{Tally}
use Rattle.tables.specs.Rows.{name_width}

abbrev pub note_numbers : Rules.Row → ℕ → ℕ → ℕ → List ℕ
note_numbers r o p e = r.kind ∷ o ∷ r.size ∷ r.scale ∷ r.digits ∷ p ∷ e ∷ []

abbrev pub tally : Bool → ℕ → ℕ → ℕ → Tally
tally b v l n = record { over = b; values = v; literals = l; bytes = n }

-- what the buffers hold room for
pub record Rooms (f : Found) (t : Tally) (row notes : List ℕ) : Type 0 where
  pub wide : length row ≡ name_width
  pub long : 448 ≤ length notes
  pub mid : (f.low ≤ 4096) × (f.mid ≤ 4096)
  pub end : (f.high ≤ 4096) × (f.end ≤ 4096)
  pub bytes : t.over ≡ false → t.bytes ≤ t.literals * 256

-- whether one value more, of so many literals, passes a limit
abbrev pub full : Tally → ℕ → Bool
full t n = t.over || (leb 8 t.values || ltb 64 (t.literals + n))

-- What is stored of a value: its literals, and the pair of their rows.
unfoldable pub notes_after : Weighed → Found → Tally → List ℕ → List ℕ
notes_after Barred f t notes = notes
notes_after (Single low) f t notes = sets notes (t.literals * 7) (note_numbers low t.bytes f.low f.mid)
notes_after (Range low high) f t notes =
    sets (sets notes (t.literals * 7) (note_numbers low t.bytes f.low f.mid)) ((t.literals + 1) * 7)
    (note_numbers high (t.bytes + low.size) f.high f.end)

unfoldable pub row_after : Weighed → Tally → List ℕ → List ℕ
row_after Barred t row = row
row_after (Single low) t row = sets row (t.values * 2 + 2) (t.literals ∷ t.literals ∷ [])
row_after (Range low high) t row = sets row (t.values * 2 + 2) (t.literals ∷ (t.literals + 1) ∷ [])

unfoldable pub tally_after : Weighed → Tally → Tally
tally_after Barred t = tally true t.values t.literals t.bytes
tally_after (Single low) t = tally false (t.values + 1) (t.literals + 1) (t.bytes + low.size)
tally_after (Range low high) t = tally false (t.values + 1) (t.literals + 2) (t.bytes + low.size + high.size)

unfoldable pub wants : Weighed → ℕ
wants Barred = 0
wants (Single low) = 1
wants (Range low high) = 2

unfoldable pub is_barred : Weighed → Bool
is_barred Barred = true
is_barred (Single low) = false
is_barred (Range low high) = false

-- A value is taken: it passes a limit, or it is stored.
pub record Takes (w : Weighed) (f : Found) (t : Tally) (row notes : List ℕ) (r : Tally) (row_left notes_left : List ℕ) : Type 0 where
  pub over : r.over ≡ is_barred w || full t (wants w)
  pub tallied : r.over ≡ false → r ≡ tally_after w t
  pub paired : r.over ≡ false → row_left ≡ row_after w t row
  pub noted : r.over ≡ false → notes_left ≡ notes_after w f t notes
  pub passed : r.over ≡ true → (r ≡ tally true t.values t.literals t.bytes) × (row_left ≡ row) × (notes_left ≡ notes)

-- no literal has more than 256 bytes
abbrev pub Small : Weighed → Type 0
Small Barred = Unit {0}
Small (Single low) = low.size ≤ 256
Small (Range low high) = (low.size ≤ 256) × (high.size ≤ 256)
