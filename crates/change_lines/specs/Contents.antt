-- What an item holds, as the logbook shows it.
use Rattle.std.specs.Prelude.{Bool, cond, not, ◌&&◌, List, [], ◌∷◌, ◌++◌, ℕ, eqb, leb}
use Rattle.lines.specs.Put.{hexadecimal}

-- a byte that has a character, the stroke apart
abbrev pub is_shown : ℕ → Bool
is_shown byte = leb 0x20 byte && leb byte 0x7E && not (eqb byte 0x5C)

-- as itself, or as two digits after a stroke
abbrev pub byte_shown : ℕ → List ℕ
byte_shown byte = cond (is_shown byte) (byte ∷ []) (0x5C ∷ hexadecimal byte)

unfoldable pub bytes_shown : List ℕ → List ℕ
bytes_shown [] = []
bytes_shown (byte ∷ content) = byte_shown byte ++ bytes_shown content

-- what an item holds, in quotes
abbrev pub content_shown : List ℕ → List ℕ
content_shown content = 0x22 ∷ [] ++ bytes_shown content ++ 0x22 ∷ []
