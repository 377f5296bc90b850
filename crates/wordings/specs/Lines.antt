-- A text that holds a table: an entry for each line.
use Rattle.std.specs.Prelude.{cond, List, [], ◌∷◌, ℕ, zero, suc, eqb, take}
use Rattle.line_places.specs.Places.{line_rest}

-- what follows so many line feeds
unfoldable pub after_lines : ℕ → List ℕ → List ℕ
after_lines zero text = text
after_lines (suc number) [] = []
after_lines (suc number) (byte ∷ rest) = cond (eqb byte 0x0A) (after_lines number rest) (after_lines (suc number) rest)

-- line `number` of a text, from 0 on, nothing where it has fewer
abbrev pub line_of : ℕ → List ℕ → List ℕ
line_of number text = take (line_rest (after_lines number text)) (after_lines number text)
