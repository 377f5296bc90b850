-- What `logbook rule` says of a plan's row.
use Rattle.std.specs.Prelude.{cond, List, [], ◌∷◌, ◌++◌, ℕ, eqb}
use Rattle.description.specs.Grammar.{bytes}
use Rattle.lines.specs.Parts.{Part, say, count, column, count_column}

-- "Verdicts stand as 65,534 for false and 65,535 for true"; else a row
abbrev pub target_shown : ℕ → List Part
target_shown target =
    cond (eqb target 65535) (say (bytes "TRUE") ∷ [])
    (cond (eqb target 65534) (say (bytes "FALSE") ∷ []) (say (bytes "row ") ∷ count target ∷ []))

-- "its plan as a table with arrows"
abbrev pub plan_line : ℕ → List ℕ → ℕ → ℕ → List Part
plan_line k words holds fails =
    say (bytes "row ") ∷ count_column 5 k ∷ column 40 words ∷ say (bytes " true -> ") ∷ []
    ++ target_shown holds
    ++ say (bytes ", false -> ") ∷ []
    ++ target_shown fails
    ++ say (0x0A ∷ []) ∷ []
