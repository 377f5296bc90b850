-- Document 02, h): what the reader of descriptions gives may be lent to every call: of 1 to 4 and 18 none can follow.
use Rattle.std.specs.Prelude.{◌≡◌, Bool, List, ◌++◌, ℕ, take, Ok}
use Rattle.tables.specs.Operands.{Lent}
use Rattle.tables.specs.Refusals.{first_of}
use Rattle.values.specs.Names.{name_check, lent_lines}
use Rattle.description.specs.Grammar.{Table}
use Rattle.description.specs.Limits.{describe, table}
use Rattle.describing.specs.declared.Described.TheVariants.{Counts}
use Rattle.describing.specs.Calls.{rows_of, names_of, literals_of, DescribedBy}

abbrev pub lent : Bool → List ℕ → List ℕ → List ℕ → List ℕ → Lent
lent off items literals bytes names = record { off = off; items = items; literals = literals; bytes = bytes; names = names }

-- the tables of a description, under the rules with the switch-off words or without
abbrev pub lent_of : Bool → Table → Lent
lent_of off t = lent off (rows_of t) (literals_of t) t.bytes (names_of t)

-- "what 18 or 01's limits bar is a row limit passed: 14 at the entry": so a text that is not refused gives tables which 1 to 4 and 18 let pass
abbrev pub Lendable : Type 0
Lendable = (off : Bool) (text : List ℕ) (t : Table) → describe text ≡ table t → first_of (lent_lines (lent_of off t)) ≡ Ok tt

-- Request h), "e) learns such names; its literals begin with these": nor does 18 with more literal rows and bytes behind a description's
abbrev pub NamesLendable : Type 0
NamesLendable =
    (off : Bool) (text : List ℕ) (t : Table) (more content : List ℕ) → describe text ≡ table t →
    name_check (lent off (rows_of t) (literals_of t ++ more) (t.bytes ++ content) (names_of t)) ≡ Ok tt

-- none of them of the outputs, as far as the call's counts say that they are written
abbrev pub OutputsLendable : Type 0
OutputsLendable =
    (off : Bool) (text rows places names name_places literals bytes rows_after places_after names_after name_places_after literals_after bytes_after : List ℕ)
    (a b c d e f : ℕ) →
    DescribedBy text rows places names name_places literals bytes (Counts a b c d e f) rows_after places_after names_after name_places_after literals_after bytes_after →
    first_of (lent_lines (lent off (take a rows_after) (take e literals_after) (take f bytes_after) (take c names_after))) ≡ Ok tt
