-- What a value of a level 88 entry comes to beside its item.
use Rattle.std.specs.Prelude.{cond}
use Rattle.content.specs.declared.Row as Rules
use Rattle.description.specs.Grammar.{Row, row, literal_row, Value, single, range}
use Rattle.description.specs.Limits.{ruled, barred}
use Rattle.value_weights.specs.declared.Weighed.{Weighed}
use Rattle.value_weights.specs.declared.Weighed.TheVariants.{Barred, Single, Range}

-- an item's row as the grammar has it
abbrev pub shown : Rules.Row → Row
shown r = row r.kind r.offset r.size r.scale r.digits

abbrev pub rows_of : Value → Weighed
rows_of (single x) = Single (ruled (literal_row 0 x))
rows_of (range x y) = Range (ruled (literal_row 0 x)) (ruled (literal_row 0 y))

abbrev pub weighed : Rules.Row → Value → Weighed
weighed item v = cond (barred (shown item) v) Barred (rows_of v)
