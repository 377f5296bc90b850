-- What `logbook items` says of an item.
use Rattle.std.specs.Prelude.{List, [], ◌∷◌, ℕ}
use Rattle.content.specs.declared.Row.{Row}
use Rattle.lines.specs.Parts.{Part, say, count, column, count_column}
use Rattle.kind_words.specs.Kinds.{kind_words}

-- "a table of the items: row, name, picture kind in words, offset, size, digits, scale"
abbrev pub item_line : ℕ → List ℕ → Row → List Part
item_line v name r =
    count_column 5 v
    ∷ column 32 name
    ∷ column 25 (kind_words r.kind)
    ∷ count_column 8 r.offset
    ∷ count_column 7 r.size
    ∷ count_column 8 r.digits
    ∷ count r.scale
    ∷ say (0x0A ∷ [])
    ∷ []
