-- Which fields are read as one word.
use Rattle.std.specs.Prelude.{Bool, ◌&&◌, eqb, leb}
use Rattle.content.specs.declared.Row.{Row}
use Rattle.content.specs.Kinds.{kind_unsigned}

-- A row that is read as a word: "3 unsigned numeric" of at most 8 bytes, each a digit.
abbrev pub fits_word : Row → Bool
fits_word row = eqb row.kind kind_unsigned && leb row.size 8
