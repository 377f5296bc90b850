-- What `logbook differ`, `mend` and `merge` say of an item.
use Rattle.std.specs.Prelude.{List, [], ◌∷◌, ℕ}
use Rattle.description.specs.Grammar.{bytes}
use Rattle.lines.specs.Parts.{Part, say, count, column}
use Rattle.change_lines.specs.Contents.{content_shown}

-- "by item names, old and new content side by side"
abbrev pub change_line : List ℕ → List ℕ → List ℕ → List ℕ → List Part
change_line name what old new =
    column 31 name ∷ column 20 what ∷ say (content_shown old) ∷ say (bytes " -> ") ∷ say (content_shown new) ∷ say (0x0A ∷ []) ∷ []

-- "merge lists .. what is contested, writes MERGED"
abbrev pub merged_line : List ℕ → ℕ → List Part
merged_line file contested =
    say (bytes "merged to ") ∷ say file ∷ say (bytes ", contested items: ") ∷ count contested ∷ say (0x0A ∷ []) ∷ []
