-- Level 88 entries as the code reads them: what a whole entry leaves in the buffers.
use Rattle.std.specs.Prelude.{◌≡◌, Bool, true, false, ◌||◌, List, [], ◌∷◌, ◌++◌, ℕ, ◌+◌, ◌*◌, ◌-◌, ◌≤◌, ◌<◌, ltb, length, take, drop, replicate, Result, Ok, Err}
use Rattle.std.proofs.Math.Option.{none}
use Rattle.content.specs.declared.Row as Rules
use Rattle.description.specs.Grammar.{Row, Literal, literal_row, Value, Pair, pairs, literals, literal_bytes}
use Rattle.description.specs.Limits.{ruled, any_barred}
use Rattle.description.specs.Reader.{Naming, label, values, labelled, faulty}
use Rattle.description.specs.Stages.{inked, joined, is_literal, literal_in}
use Rattle.value_weights.specs.Weights.{shown}
use Rattle.value_notes.specs.Taking.{note_numbers}
use Rattle.value_notes.specs.declared.Tally.{Tally}
use Rattle.name_entries.specs.declared.NameRead.{NameRead}
use Rattle.tables.specs.Rows.{name_width}

-- where a literal stands in the text, and the literals that stand in such places
pub record Span : Type 0 where
  pub from : ℕ
  pub until : ℕ

unfoldable pub literals_in : List ℕ → List Span → List Literal
literals_in text [] = []
literals_in text (s ∷ ss) = literal_in text s.from s.until ∷ literals_in text ss

-- their notes, the bytes laid from an offset on
unfoldable pub notes_of : List ℕ → ℕ → List Span → List ℕ
notes_of text o [] = []
notes_of text o (s ∷ ss) =
    note_numbers (ruled (literal_row 0 (literal_in text s.from s.until))) o s.from s.until
    ++ notes_of text (o + length (literal_in text s.from s.until).bytes) ss

-- each stands in the text, and is a literal
abbrev pub Standing : List ℕ → List Span → Type 0
Standing text [] = Unit {0}
Standing text (s ∷ ss) =
    (s.from ≤ s.until) × (s.until ≤ length text) × (is_literal (take (s.until - s.from) (drop s.from text)) ≡ true) × Standing text ss

unfoldable pub pair_numbers : List Pair → List ℕ
pair_numbers [] = []
pair_numbers (p ∷ ps) = p.low ∷ p.high ∷ pair_numbers ps

-- values that pass a limit, with k literals before them
abbrev pub over_values : ℕ → Row → List Value → Bool
over_values k r vs = ltb 64 (k + length (literals vs)) || ltb 8 (length vs) || any_barred r vs

-- The notes hold the literals that stand at ss.
pub record Noted (text notes : List ℕ) (t : Tally) (ss : List Span) : Type 0 where
  pub laid : take (t.literals * 7) notes ≡ notes_of text 0 ss
  pub standing : Standing text ss
  pub counted : t.literals ≡ length ss
  pub sized : t.bytes ≡ length (literal_bytes (literals_in text ss))
  pub few : t.literals ≤ 64
  pub small : t.bytes ≤ t.literals * 256

-- What values leave: those of `vs`, after the literals that stand at ss.
pub record Left (text : List ℕ) (ss : List Span) (vs : List Value) (t : Tally) (row notes : List ℕ) : Type 0 where
  pub spans : List Span
  pub noted : Noted text notes t (ss ++ spans)
  pub valued : literals_in text spans ≡ literals vs
  pub values : t.values ≡ length vs
  pub few : t.values ≤ 8
  pub paired : row ≡ 0 ∷ 0 ∷ pair_numbers (pairs (length ss) vs) ++ replicate (16 - length vs * 2) 0

-- A tally before any value, and the buffers.
pub record Begun (text : List ℕ) (t : Tally) (row notes : List ℕ) : Type 0 where
  pub short : length text ≤ 4096
  pub values : t.values ≡ 0
  pub zeros : row ≡ replicate name_width 0
  pub long : 448 ≤ length notes
  pub spans : List Span
  pub noted : t.over ≡ false → Noted text notes t spans

-- the same before the row is cleared
pub record Ready (text : List ℕ) (t : Tally) (notes : List ℕ) : Type 0 where
  pub short : length text ≤ 4096
  pub values : t.values ≡ 0
  pub long : 448 ≤ length notes
  pub spans : List Span
  pub noted : t.over ≡ false → Noted text notes t spans

-- whether a limit is passed, and if not what is stored
pub record Held (text : List ℕ) (item : Rules.Row) (start : Bool) (ss : List Span) (vs : List Value) (t : Tally) (row notes : List ℕ) : Type 0 where
  pub over : t.over ≡ start || over_values (length ss) (shown item) vs
  pub left : t.over ≡ false → Left text ss vs t row notes

-- What every entry leaves, with k literals before it: their notes and all from number 448 on as they were, and two zeros where the row will
-- name the item and count the pairs. Free where the entry is not whole or passes a limit: the rest of the row, and the notes between.
pub record Spared (k : ℕ) (notes row_left notes_left : List ℕ) : Type 0 where
  pub wide : length row_left ≡ name_width
  pub unnamed : take 2 row_left ≡ 0 ∷ 0 ∷ []
  pub long : length notes_left ≡ length notes
  pub counted : take (k * 7) notes_left ≡ take (k * 7) notes
  pub beyond : drop 448 notes_left ≡ drop 448 notes

abbrev pub ReadAs : List ℕ → ℕ → List Value → Result NameRead ℕ → Type 0
ReadAs text n vs (Ok r) = (h : Naming) (p : ℕ) → joined text n (values h p [] none) ≡ joined text r.end (labelled h p vs)
ReadAs text n vs (Err k) = (h : Naming) (p : ℕ) → joined text n (values h p [] none) ≡ faulty h.earlier k

-- where no limit is passed, the notes after those that `Held` tells are as they were
abbrev pub HeldBy : List ℕ → ℕ → Rules.Row → Tally → List ℕ → List Value → Result NameRead ℕ → List ℕ → List ℕ → Type 0
HeldBy text n item start notes vs (Ok r) row_left notes_left =
    (r.end ≤ length text) × (n < r.end) × ((ss : List Span) → (start.over ≡ false → Noted text notes start ss) → Held text item start.over ss vs r.tally row_left notes_left)
    × (r.tally.over ≡ false → drop (r.tally.literals * 7) notes_left ≡ drop (r.tally.literals * 7) notes)
HeldBy text n item start notes vs (Err k) row_left notes_left = Unit {0}

-- The values of an entry, from n on.
pub record ValuesBy (text : List ℕ) (n : ℕ) (item : Rules.Row) (start : Tally) (notes : List ℕ) (r : Result NameRead ℕ) (row_left notes_left : List ℕ) : Type 0 where
  pub values : List Value
  pub reads : ReadAs text n values r
  pub held : HeldBy text n item start notes values r row_left notes_left
  pub spared : Spared start.literals notes row_left notes_left

-- A whole entry, whose level number stands before n.
abbrev pub LabelledAs : List ℕ → ℕ → List Value → Result NameRead ℕ → Type 0
LabelledAs text n vs (Ok r) = (h : Naming) → joined text n (label h) ≡ joined text r.end (labelled h (inked text n) vs)
LabelledAs text n vs (Err k) = (h : Naming) → joined text n (label h) ≡ faulty h.earlier k

pub record NamedBy (text : List ℕ) (n : ℕ) (item : Rules.Row) (start : Tally) (notes : List ℕ) (r : Result NameRead ℕ) (row_left notes_left : List ℕ) : Type 0 where
  pub values : List Value
  pub reads : LabelledAs text n values r
  pub held : HeldBy text n item start notes values r row_left notes_left
  pub spared : Spared start.literals notes row_left notes_left
