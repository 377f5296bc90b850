-- What `logbook sweep` says of an entry, and of all of them.
use Rattle.std.specs.Prelude.{List, [], ◌∷◌, ◌++◌, ℕ}
use Rattle.description.specs.Grammar.{bytes}
use Rattle.lines.specs.Parts.{Part, say, count}

-- "one line for each entry that is true or stops": its number, before what is said of it
abbrev pub entry_start : ℕ → List Part
entry_start n = say (bytes "entry ") ∷ count n ∷ say (bytes ": ") ∷ []

-- "and totals"
abbrev pub totals_line : ℕ → ℕ → ℕ → ℕ → List Part
totals_line entries held failed stopped =
    count entries
    ∷ say (bytes " entries: ")
    ∷ count held
    ∷ say (bytes " true, ")
    ∷ count failed
    ∷ say (bytes " false, ")
    ∷ count stopped
    ∷ say (bytes " stopped" ++ 0x0A ∷ [])
    ∷ []
