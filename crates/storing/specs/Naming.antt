-- Level 88 entries in buffers.
use Rattle.std.specs.Prelude.{◌≡◌, Bool, true, false, cond, ◌||◌, List, [], ◌∷◌, ◌++◌, map, ℕ, ◌+◌, ◌*◌, ◌-◌, ◌≤◌, ◌<◌, leb, length, take, drop, set, replicate, Result, Ok, Err}
use Rattle.std.proofs.Math.Option.{Option, none, some}
use Rattle.std.proofs.lemmas.List.Edits.{sets}
use Rattle.content.specs.declared.Row as Rules
use Rattle.description.specs.Grammar.{Entry, Value, Condition, NameRow, name_rows, literals, literals_of}
use Rattle.description.specs.Limits.{name_marks}
use Rattle.description.specs.Reader.{Naming, label, labelled, faulty}
use Rattle.description.specs.Stages.{inked, joined, first_over, own_rows}
use Rattle.entries.specs.declared.Noted.{Noted}
use Rattle.value_notes.specs.Taking.{tally}
use Rattle.name_entries.specs.Named.{Span, literals_in, pair_numbers, Held, Spared, Noted as NotesHold}
use Rattle.value_notes.specs.declared.Tally.{Tally}
use Rattle.noting.specs.Stored.{noted_at}
use Rattle.storing.specs.declared.Names.{Names}
use Rattle.storing.specs.declared.NameStep.{NameStep}
use Rattle.tables.specs.Rows.{name_width}

abbrev pub item_row : Noted → Rules.Row
item_row x = record { kind = x.kind; offset = 0; size = x.size; scale = x.scale; digits = x.digits }

abbrev pub names : Bool → ℕ → ℕ → ℕ → ℕ → Names
names b p c l n = record { over = b; place = p; count = c; literals = l; bytes = n }

abbrev pub start_of : Names → Tally
start_of s = tally (s.over || leb 64 s.count) 0 s.literals s.bytes

abbrev pub passed_by : Names → ℕ → Names
passed_by s p = cond s.over s (names true p s.count s.literals s.bytes)

-- "rows of 18 numbers: item row, a count .., that many pairs of literal rows .., zeros"
abbrev pub row_numbers : NameRow → List ℕ
row_numbers r = r.item ∷ length r.pairs ∷ pair_numbers r.pairs ++ replicate (16 - length r.pairs * 2) 0

unfoldable pub name_numbers : List NameRow → List ℕ
name_numbers [] = []
name_numbers (r ∷ rs) = row_numbers r ++ name_numbers rs

abbrev pub name_of : Condition → ℕ
name_of c = c.named

abbrev pub limit_of : Names → Option ℕ
limit_of s = cond s.over (some s.place) none

-- each name's item is there
abbrev pub Items : ℕ → List Condition → Type 0
Items n [] = Unit {0}
Items n (c ∷ cs) = (c.item < n) × Items n cs

-- The buffers hold the names.
pub record Stores (text : List ℕ) (cs : List Condition) (s : Names) (rows places notes : List ℕ) : Type 0 where
  pub spans : List Span
  pub noted : NotesHold text notes (tally false 0 s.literals s.bytes) spans
  pub valued : literals_in text spans ≡ literals_of cs
  pub counted : s.count ≡ length cs
  pub few : s.count ≤ 64
  pub named : take (s.count * name_width) rows ≡ name_numbers (name_rows 0 cs)
  pub placed : take s.count places ≡ map name_of cs

-- Those before the first that passes a limit are stored: all of them, where none does.
pub record Kept (text : List ℕ) (es : List Entry) (cs : List Condition) (s : Names) (rows places notes : List ℕ) : Type 0 where
  pub limit : first_over (name_marks 0 0 (own_rows es) cs) ≡ limit_of s
  pub stores : Stores text (take s.count cs) s rows places notes
  pub all : s.over ≡ false → s.count ≡ length cs
  pub items : Items (length es) cs

-- What private functions promise. A name's row and its place:
pub record NameStored (i item values named : ℕ) (rows places row rows_after places_after row_after : List ℕ) : Type 0 where
  pub is : row_after ≡ item ∷ values ∷ drop 2 row
  pub stored : rows_after ≡ sets rows (i * name_width) row_after
  pub placed : places_after ≡ set places i named

-- An entry that is not whole or passes a limit: no name more. Free is what `Spared` leaves free of the row and the notes.
pub record NotStored (s : Names) (rows places notes rows_after places_after notes_after row_after : List ℕ) : Type 0 where
  pub named : rows_after ≡ rows
  pub placed : places_after ≡ places
  pub spared : Spared s.literals notes row_after notes_after

pub record NameReady (text : List ℕ) (p : ℕ) (flat : List ℕ) (count : ℕ) (s : Names) (rows places notes row : List ℕ) : Type 0 where
  pub inside : p + 2 ≤ length text
  pub short : length text ≤ 4096
  pub some : 0 < count
  pub few : count ≤ 820
  pub held : count * 7 ≤ length flat
  pub wide : (1152 ≤ length rows) × (64 ≤ length places) × (448 ≤ length notes) × (length row ≡ name_width)
  pub spans : List Span
  pub noted : s.over ≡ false → NotesHold text notes (tally false 0 s.literals s.bytes) spans

-- One entry more, judged with the item's own entry. Where it passes no limit, its row is stored and the notes after its own are as they were.
pub record Stepped (text : List ℕ) (p : ℕ) (flat : List ℕ) (count : ℕ) (s : Names) (rows places notes : List ℕ) (vs : List Value) (r : Names)
    (rows_after places_after notes_after row_after : List ℕ) : Type 0 where
  pub tallied : Tally
  pub row : List ℕ
  pub held : (ss : List Span) → (s.over || leb 64 s.count ≡ false → NotesHold text notes (start_of s) ss) →
      Held text (item_row (noted_at flat (count - 1))) (s.over || leb 64 s.count) ss vs tallied row notes_after
  pub is : r ≡ cond tallied.over (passed_by s p) (names false 0 (s.count + 1) tallied.literals tallied.bytes)
  pub stored : tallied.over ≡ false → NameStored s.count (count - 1) tallied.values (inked text (p + 2)) rows places row rows_after places_after row_after
  pub beyond : tallied.over ≡ false → drop (tallied.literals * 7) notes_after ≡ drop (tallied.literals * 7) notes
  pub passed : tallied.over ≡ true → NotStored s rows places notes rows_after places_after notes_after row_after

abbrev pub StepBy : List ℕ → ℕ → List ℕ → ℕ → Names → List ℕ → List ℕ → List ℕ → List Value → Result NameStep ℕ → List ℕ → List ℕ → List ℕ → List ℕ → Type 0
StepBy text p flat count s rows places notes vs (Ok r) rows_after places_after notes_after row_after =
    ((h : Naming) → joined text (p + 2) (label h) ≡ joined text r.end (labelled h (inked text (p + 2)) vs)) × (r.end ≤ length text) × (p + 2 < r.end)
    × Stepped text p flat count s rows places notes vs r.names rows_after places_after notes_after row_after
StepBy text p flat count s rows places notes vs (Err k) rows_after places_after notes_after row_after =
    ((h : Naming) → joined text (p + 2) (label h) ≡ faulty h.earlier k) × NotStored s rows places notes rows_after places_after notes_after row_after

pub record NameBy (text : List ℕ) (p : ℕ) (flat : List ℕ) (count : ℕ) (s : Names) (rows places notes : List ℕ) (r : Result NameStep ℕ)
    (rows_after places_after notes_after row_after : List ℕ) : Type 0 where
  pub values : List Value
  pub by : StepBy text p flat count s rows places notes values r rows_after places_after notes_after row_after
