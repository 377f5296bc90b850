-- What `logbook items` says over its table, and of condition-names.
use Rattle.std.specs.Prelude.{Bool, cond, List, [], ◌++◌, ℕ}
use Rattle.description.specs.Grammar.{bytes}

-- "a table of the items: row, name, picture kind in words, offset, size, digits, scale", each over its column
abbrev pub heading : List ℕ
heading = bytes "row  name                            kind                     offset  size   digits  scale\n"

-- "condition-names with their values under their item"
abbrev pub name_shown : List ℕ → List ℕ
name_shown name = bytes "       88 " ++ name ++ bytes " VALUE"

-- one value, or a range of them
abbrev pub value_shown : List ℕ → List ℕ → Bool → List ℕ
value_shown low high range = bytes " " ++ low ++ cond range (bytes " THRU " ++ high) []
