-- "the line and column, that line": where a byte stands in a text whose lines end with a line feed, by the bytes before it and those
-- from it on. Lines count from 1.
use Rattle.std.specs.Prelude.{cond, ◌||◌, List, [], ◌∷◌, ℕ, ◌+◌, eqb, ltb}

-- a line, and one more for each line feed that follows
unfoldable pub lines_from : ℕ → List ℕ → ℕ
lines_from line [] = line
lines_from line (byte ∷ rest) = lines_from (cond (eqb byte 0x0A) (line + 1) line) rest

-- the start of a line, or the place after the last line feed of these bytes, which lie from a place on
unfoldable pub start_from : ℕ → ℕ → List ℕ → ℕ
start_from start place [] = start
start_from start place (byte ∷ rest) = start_from (cond (eqb byte 0x0A) (place + 1) start) (place + 1) rest

-- the place of the first line feed of these bytes, or of their end; they lie from a place on
unfoldable pub end_from : ℕ → List ℕ → ℕ
end_from place [] = place
end_from place (byte ∷ rest) = cond (eqb byte 0x0A) place (end_from (place + 1) rest)

-- the number of the line after so much text, and where it starts
abbrev pub line_number : List ℕ → ℕ
line_number before = lines_from 1 before

abbrev pub line_start : List ℕ → ℕ
line_start before = start_from 0 0 before

-- how much of a line is left
abbrev pub line_rest : List ℕ → ℕ
line_rest rest = end_from 0 rest

-- "a caret under the byte": what follows the characters with ink that stand there, a line feed where nothing does. A space or a line feed ends
-- a word; anything else is what nobody sees in it.
unfoldable pub after_ink : List ℕ → ℕ
after_ink [] = 0x0A
after_ink (byte ∷ rest) = cond (ltb byte 0x21 || ltb 0x7E byte) byte (after_ink rest)
