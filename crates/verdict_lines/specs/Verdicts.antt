-- What `logbook judge` and `logbook sweep` say.
use Rattle.std.specs.Prelude.{Bool, cond, List, [], ◌∷◌, ◌++◌, ℕ}
use Rattle.description.specs.Grammar.{bytes}
use Rattle.lines.specs.Put.{hexadecimal}
use Rattle.lines.specs.Parts.{Part, say, count}

-- "TRUE or FALSE"
abbrev pub truth_word : Bool → List ℕ
truth_word truth = cond truth (bytes "TRUE" ++ 0x0A ∷ []) (bytes "FALSE" ++ 0x0A ∷ [])

-- "how many conditions were judged"
abbrev pub judged_line : ℕ → List Part
judged_line judged = say (bytes "conditions judged: ") ∷ count judged ∷ say (0x0A ∷ []) ∷ []

abbrev pub verdict_lines : Bool → ℕ → List Part
verdict_lines truth judged = say (truth_word truth) ∷ judged_line judged

-- "the stop: which condition (its text), which item by name, which byte and what stands there"
abbrev pub stop_lines : List ℕ → List ℕ → ℕ → ℕ → List Part
stop_lines condition item byte held =
    say (bytes "the rule stops at: ")
    ∷ say condition
    ∷ say (0x0A ∷ bytes "at ")
    ∷ say item
    ∷ say (bytes ", byte ")
    ∷ count byte
    ∷ say (bytes " of the record, which holds hex ")
    ∷ say (hexadecimal held)
    ∷ say (0x0A ∷ [])
    ∷ []
