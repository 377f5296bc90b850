-- Document 02, requests a) and h): the call's whole answer and its six outputs.
use Rattle.std.specs.Prelude.{◌≡◌, cond, true, false, List, [], ◌++◌, map, ℕ, ◌*◌, ◌≤◌, leb, length, take, drop, None, Option}
use Rattle.description.specs.Grammar.{Entry, Condition, Table}
use Rattle.description.specs.Reader.{layout, parts}
use Rattle.description.specs.Stages.{first_over, sooner}
use Rattle.description.specs.Limits.{Outcome, table, refusal, read_within, item_marks, marks, least}
use Rattle.description.specs.Limits as Limits
use Rattle.entries.specs.declared.Noted.{Noted}
use Rattle.entries.specs.Entries.{cap_noted, entry_of}
use Rattle.storing.specs.declared.Found.{Found}
use Rattle.storing.specs.declared.Names.{Names}
use Rattle.noting.specs.Stored.{noted_from, Scaled}
use Rattle.storing.specs.Naming.{name_numbers, name_of, limit_of, Stores}
use Rattle.storing.specs.Reads.{reading_of}
use Rattle.layouts.specs.Layouts.{row_numbers, over_place}
use Rattle.outputs.specs.Noted.{named_of, rows_from, bytes_from, Words}
use Rattle.describing.specs.declared.Sizes.{Sizes}
use Rattle.describing.specs.declared.Described.{Described}
use Rattle.describing.specs.declared.Described.TheVariants.{Counts, Faulty, Room}
use Rattle.tables.specs.Rows.{name_width}
use Rattle.content.specs.Kinds.{row_width}

-- "Numbers from 14 join 01's table": the number and the place of a refusal
abbrev pub number : Described → ℕ
number (Counts a b c d e f) = 0
number (Faulty p) = 14
number (Room n) = 10

abbrev pub place : Described → ℕ
place (Counts a b c d e f) = 0
place (Faulty p) = p
place (Room n) = n

-- "Write item rows": their numbers; "and for each the place of its name or FILLER"
abbrev pub rows_of : Table → List ℕ
rows_of t = row_numbers t.rows

abbrev pub place_of_name : Entry → ℕ
place_of_name e = e.named

abbrev pub places_of : Table → List ℕ
places_of t = map place_of_name t.entries

-- Request h), "It writes name rows, name places, literal rows and bytes last"
abbrev pub names_of : Table → List ℕ
names_of t = name_numbers t.names

abbrev pub name_places_of : Table → List ℕ
name_places_of t = map name_of t.conditions

abbrev pub literals_of : Table → List ℕ
literals_of t = row_numbers t.literals

-- the room that each output needs, and the room that it has: the first that lacks room is told
abbrev pub room : ℕ → ℕ → ℕ → ℕ → ℕ → ℕ → ℕ → ℕ → ℕ → ℕ → ℕ → ℕ → Described
room a b c d e f rows places names name_places literals bytes =
    cond (leb a rows)
    (cond (leb b places)
    (cond (leb c names)
    (cond (leb d name_places) (cond (leb e literals) (cond (leb f bytes) (Counts a b c d e f) (Room f)) (Room e)) (Room d))
    (Room c))
    (Room b))
    (Room a)

-- "Other text is refused with 14 ..; the smallest place wins, then 10"; "writing calls give each output's count, outputs in the order
-- named"
abbrev pub answer : Outcome → ℕ → ℕ → ℕ → ℕ → ℕ → ℕ → Described
answer (table t) rows places names name_places literals bytes =
    room (length (rows_of t)) (length (places_of t)) (length (names_of t)) (length (name_places_of t)) (length (literals_of t)) (length t.bytes)
    rows places names name_places literals bytes
answer (refusal p) rows places names name_places literals bytes = Faulty p

abbrev pub rows_in : Outcome → List ℕ
rows_in (table t) = rows_of t
rows_in (refusal p) = []

abbrev pub places_in : Outcome → List ℕ
places_in (table t) = places_of t
places_in (refusal p) = []

abbrev pub names_in : Outcome → List ℕ
names_in (table t) = names_of t
names_in (refusal p) = []

abbrev pub name_places_in : Outcome → List ℕ
name_places_in (table t) = name_places_of t
name_places_in (refusal p) = []

abbrev pub literals_in : Outcome → List ℕ
literals_in (table t) = literals_of t
literals_in (refusal p) = []

abbrev pub bytes_in : Outcome → List ℕ
bytes_in (table t) = t.bytes
bytes_in (refusal p) = []

-- an output: what is written, and the rest of it as it was; a refusal changes nothing
abbrev pub written : Described → List ℕ → List ℕ → List ℕ
written (Counts a b c d e f) out before = out ++ drop (length out) before
written (Faulty p) out before = before
written (Room n) out before = before

-- The whole answer and the six outputs.
pub record DescribedBy (text rows places names name_places literals bytes : List ℕ) (r : Described)
    (rows_after places_after names_after name_places_after literals_after bytes_after : List ℕ) : Type 0 where
  pub answered : r
      ≡ answer (Limits.describe text) (length rows) (length places) (length names) (length name_places) (length literals) (length bytes)
  pub rows_written : rows_after ≡ written r (rows_in (Limits.describe text)) rows
  pub places_written : places_after ≡ written r (places_in (Limits.describe text)) places
  pub names_written : names_after ≡ written r (names_in (Limits.describe text)) names
  pub name_places_written : name_places_after ≡ written r (name_places_in (Limits.describe text)) name_places
  pub literals_written : literals_after ≡ written r (literals_in (Limits.describe text)) literals
  pub bytes_written : bytes_after ≡ written r (bytes_in (Limits.describe text)) bytes

-- What private functions promise: the buffers hold the complete entries of the text, byte 4,096 being faulty; and which place over a limit
-- is the smallest.
pub record ReadsWithin (text flat named spots notes : List ℕ) (r : Found) : Type 0 where
  pub exact : List Noted
  pub conditions : List Condition
  pub held : noted_from flat 0 r.count ≡ map cap_noted exact
  pub scaled : Scaled exact
  pub reading : read_within text ≡ reading_of r.whole (parts (map entry_of exact) conditions) r.place
  pub few : row_width * r.count ≤ 4096
  pub smallest : least (marks (parts (map entry_of exact) conditions))
      ≡ sooner (first_over (item_marks 0 (map entry_of exact) (layout 0 (map entry_of exact)))) (limit_of r.names)
  pub stores : r.whole ≡ true → r.names.over ≡ false → Stores text conditions r.names named spots notes

-- The smaller of two places over a limit.
pub record SoonerBy (laid : Option ℕ) (s : Names) (r : Option ℕ) : Type 0 where
  pub is : over_place r ≡ sooner (over_place laid) (limit_of s)
  pub fine : r ≡ None → laid ≡ None

-- the same by the outputs' lengths
abbrev pub room_for : Sizes → Sizes → Described
room_for needed has =
    room needed.rows needed.places needed.names needed.spots needed.literals needed.bytes
    has.rows has.places has.names has.spots has.literals has.bytes

-- what is needed for what was found
abbrev pub needed : Found → Sizes
needed f =
    record {
      rows = f.count * row_width;
      places = f.count;
      names = f.names.count * name_width;
      spots = f.names.count;
      literals = f.names.literals * row_width;
      bytes = f.names.bytes;
    }

abbrev pub sizes : ℕ → ℕ → ℕ → ℕ → ℕ → ℕ → Sizes
sizes a b c d e f = record { rows = a; places = b; names = c; spots = d; literals = e; bytes = f }

-- The buffers hold what was found.
pub record Ready (text laid flat named spots notes : List ℕ) (f : Found) : Type 0 where
  pub rows : f.count * row_width ≤ length laid
  pub entries : f.count * 7 ≤ length flat
  pub few : f.count ≤ 64
  pub names : f.names.count * name_width ≤ length named
  pub places : f.names.count ≤ length spots
  pub few_names : f.names.count ≤ 64
  pub words : Words text notes f.names.literals
  pub few_literals : f.names.literals ≤ 64
  pub sized : f.names.bytes ≡ length (bytes_from text notes 0 f.names.literals)

-- Every output has room.
pub record Roomy (f : Found) (rows places names name_places literals bytes : ℕ) : Type 0 where
  pub for_rows : f.count * row_width ≤ rows
  pub for_places : f.count ≤ places
  pub for_names : f.names.count * name_width ≤ names
  pub for_name_places : f.names.count ≤ name_places
  pub for_literals : f.names.literals * row_width ≤ literals
  pub for_bytes : f.names.bytes ≤ bytes

-- what is written over the start of an output
abbrev pub over : List ℕ → List ℕ → List ℕ
over out before = out ++ drop (length out) before

pub record Wrote (text laid flat named spots notes : List ℕ) (f : Found) (rows places names name_places literals bytes : List ℕ)
    (rows_after places_after names_after name_places_after literals_after bytes_after : List ℕ) : Type 0 where
  pub rows_are : rows_after ≡ over (take (f.count * row_width) laid) rows
  pub places_are : places_after ≡ over (map named_of (noted_from flat 0 f.count)) places
  pub names_are : names_after ≡ over (take (f.names.count * name_width) named) names
  pub name_places_are : name_places_after ≡ over (take f.names.count spots) name_places
  pub literals_are : literals_after ≡ over (rows_from notes 0 f.names.literals) literals
  pub bytes_are : bytes_after ≡ over (bytes_from text notes 0 f.names.literals) bytes

pub record Given (text laid flat named spots notes : List ℕ) (f : Found) (rows places names name_places literals bytes : List ℕ) (r : Described)
    (rows_after places_after names_after name_places_after literals_after bytes_after : List ℕ) : Type 0 where
  pub answered : r ≡ room_for (needed f) (sizes (length rows) (length places) (length names) (length name_places) (length literals) (length bytes))
  pub rows_written : rows_after ≡ written r (take (f.count * row_width) laid) rows
  pub places_written : places_after ≡ written r (map named_of (noted_from flat 0 f.count)) places
  pub names_written : names_after ≡ written r (take (f.names.count * name_width) named) names
  pub name_places_written : name_places_after ≡ written r (take f.names.count spots) name_places
  pub literals_written : literals_after ≡ written r (rows_from notes 0 f.names.literals) literals
  pub bytes_written : bytes_after ≡ written r (bytes_from text notes 0 f.names.literals) bytes
